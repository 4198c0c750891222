-- The declarations of a linked program grow from the given ones.
use Rattle.std.proofs.Common.{codes, ◌≡◌, inl, inr, ℕ, ◌<◌, ◌^◌, List, [], ◌∷◌, ◌++◌, map, Bool, true, false, cond, not, ◌||◌, refl, sym, ap, ap₂, ◌∙◌, subst}
use Rattle.std.proofs.lemmas.List.{append-nil}
use Rattle.std.specs.List.{AllByRecursion}
use Rattle.lex_text.specs.Names.{same_text}
use Rattle.rule_tests.specs.Tests.{IsFine}
use Rattle.p4_parser_states.specs.Laws.{ReachesIsExact}
use Rattle.p4_tree.specs.Tree.{Stmts, Control, Parser, Top, constant, typedef, header_type, struct_type, register, parser, control, Program}
use Rattle.p4_tree.specs.declared.statement.PTy.{PTy}
use Rattle.p4_tree.specs.declared.statement.PTy.TheVariants as type
use Rattle.p4_tree.specs.declared.program.Param.{Param}
use Rattle.p4_tree.specs.declared.program.Way.TheVariants.{Plain, Into, Out, Both}
use Rattle.p4_meaning.specs.Scope as meaning
use Rattle.p4_meaning.specs.Scope.{Roots, roots_of, param_at, param_name}
use Rattle.p4_meaning.specs.Under.{behind_top}
use Rattle.p4_scopes.specs.Scopes.{add_up, Stands, typed, held, is_missing, as_held, as_typed, typed_thing, type_at, Scope, What, value, declare, behind, field_at, core}
use Rattle.p4_scopes.specs.Uses.{is_type}
use Rattle.p4_scopes.specs.declared.thing.Thing.TheVariants.{Header, PacketIn, PacketOut}
use Rattle.p4_scopes.specs.declared.thing.Access.{Access}
use Rattle.p4_scopes.specs.declared.thing.Access.TheVariants.{Writable}
use Rattle.p4_statement_rules.specs.Expressions.{type_tests}
use Rattle.p4_statement_rules.specs.declared.rule.Part.{Part}
use Rattle.p4_statement_rules.specs.declared.rule.Part.TheVariants as place
use Rattle.p4_declaration_rules.specs.Declarations.{is_no_field, fields_tests}
use Rattle.p4_declaration_rules.specs.Parsers.{way_access, with_ways, ways_tests, before_states, in_states, parser_tests}
use Rattle.p4_declaration_rules.specs.Controls.{control_tests, part_in, after_top, tops_tests, most_of_part, most_of_top, most_of_tops}
use Rattle.p4_rules.specs.Mains.{apply_wants, checksum_wants, parser_wants, deparser_wants, Structs, structs_of, wanted_tests}
use Rattle.p4_rules.specs.ProgramRules.{program_scope, IsWellTyped}
use Rattle.p4_printer.specs.CanSpell.{EachCan, CanSpellState, CanSpellTop, CanSpellStmts}
use Rattle.p4_rule_laws.specs.Old.{Alike}
use Rattle.p4_rule_laws.specs.OldPrograms.{OldWays, OldParser, OldTop, OldTops, OldControl}
use Rattle.p4_rule_laws.specs.Kept.{Keeps}
use Rattle.p4_rule_laws.specs.Roles.{wants_of}
use Rattle.p4_rule_laws.specs.Growth.{More, MoreIsNew, MoreFits, Sees, TopsGrow, no_top, same_top, wider_struct, other_states, other_control, control_with, parser_with, has_struct}
use Rattle.p4_rule_laws.proofs.RoleFacts.{parts_in_role}
use Rattle.p4_rule_laws.proofs.AlikePrograms.{ways_alike, with_ways_alike, before_states_alike, control_alike}
use Rattle.p4_rule_laws.proofs.KeepsLemmas.{keeps_trans, declare_keeps, with_ways_keeps, with_ends_keeps, after_tops_keeps, declared, undeclared}
use Rattle.p4_rule_laws.proofs.OwnStates.{start_among}
use Rattle.p4_rule_laws.proofs.GrowthLemmas.{same_params, parser_grows}
use Rattle.p4_rule_laws.proofs.WiderLemmas.{old_is_other}
use Rattle.p4_typing_laws.proofs.CallCounts.{text_is, text_same}
use Rattle.p4_typing_laws.proofs.CountedNames.{self_stands}
use Rattle.exit_rules.proofs.Declared.{left_ways}
use Rattle.own_code.specs.Regions.{is_mine}
use Rattle.own_programs.specs.OwnPrograms.{is_own}
use Rattle.own_programs.proofs.Names.{broken}
use Rattle.exit_programs.proofs.MainParts.{HaveParts}
use Rattle.own_programs.proofs.Params.{core_wanted, of_headers, of_metadata}
use Rattle.own_programs.proofs.Programs as of
use Rattle.linked_programs.specs.Lowered.{Lowered}
use Rattle.linked_programs.specs.Linked.{tele_name, tele_field, length_field, Place, is_ingress, is_egress, is_deparser, is_other, place_in, control_roots, parser_roots, packet_name, linked_parser, locals_at, apply_at, control_at, more_fields, headers_type, metadata_type, front, linked_top}
use Rattle.linked_programs.specs.Gives.{IsLoweredLocal}
use Rattle.linked_programs.specs.Ready.{AreTheOnes}
use Rattle.linked_rules.specs.Passes.{front_scope, Offers, IsFresh, Shows, Passes}
use Rattle.linked_rules.proofs.StatesFine.{parser_states_grow}
use Rattle.linked_hosts.proofs.ReadyByRules.{Here, next_here, IsAtPlace, place_part}
use Rattle.linked_rules.proofs.Offered.{NoFixed, fixed_top, struct_here, HasStructs, has_structs, structs_kept, offered, shown, wanted_way, wanted_metadata, wanted_core}
use Rattle.linked_rules.proofs.ControlsFine.{offers_kept, has_length, ingress_grows, egress_grows}
use Rattle.linked_rules.proofs.ParserFine.{added_states, other_ends, names_missing, parser_begins}
use Rattle.linked_rules.specs.Digests.{Tells, told_more, told_top, told}
use Rattle.linked_rules.proofs.DigestsGrow.{ingress_most, egress_most}
use Rattle.linked_rules.specs.Held.{locals_hold, tops_hold}
use Rattle.linked_rules.proofs.LocalsHold.{plain_hold, more_hold}
use Rattle.p4_scopes.specs.declared.kind.Kind.{Kind}
use Rattle.p4_rule_laws.proofs.GrowthLemmas as growth
use Rattle.linked_rules.proofs.OthersFine.{deparser_grows, stmts_none}

-- a type that stands behind a parameter stood before it
type_before : (p : ℕ) (s : Scope) (n : List ℕ) (a : Access) (ty : PTy) (x : List ℕ) → IsFine (type_tests p (declare s n (value a ty)) (type.Named x)) → IsFine (type_tests p s (type.Named x))
unfolding declare
type_before p s n a ty x f = go (same_text n x) f
  where
    go : (b : Bool) → (is_missing (cond b (behind s (value a ty) []) (s (x ∷ []))) ≡ false) × (not (is_type (cond b (behind s (value a ty) []) (s (x ∷ [])))) ≡ false) → (is_missing (s (x ∷ [])) ≡ false) × (not (is_type (s (x ∷ []))) ≡ false)
    go true h = broken h.1
    go false h = h

named_fine : (p : ℕ) (s : Scope) (ty : PTy) (x : List ℕ) → ty ≡ type.Named x → IsFine (type_tests p s ty) → IsFine (type_tests p s (type.Named x))
named_fine p s ty x e f = subst (λ (t : PTy). IsFine (type_tests p s t)) e f

-- a struct of an own program has an own name
pub struct_own : (ts : List Top) (x : List ℕ) → OldTops is_own ts → has_struct ts x ≡ true → is_own x ≡ true
struct_own [] x o h = broken (sym h)
struct_own (struct_type q y fs ∷ ts) x o h = go (same_text y x) refl h (struct_own ts x o.1)
  where
    go : (b : Bool) → same_text y x ≡ b → (b || has_struct ts x) ≡ true → (has_struct ts x ≡ true → is_own x ≡ true) → is_own x ≡ true
    go true e k more = ap is_own (sym (text_is y x e)) ∙ o.0.0
    go false e k more = more k
struct_own (constant q u y e ∷ ts) x o h = struct_own ts x o.1 h
struct_own (typedef q u y ∷ ts) x o h = struct_own ts x o.1 h
struct_own (header_type q y fs ∷ ts) x o h = struct_own ts x o.1 h
struct_own (register q d ∷ ts) x o h = struct_own ts x o.1 h
struct_own (parser q d ∷ ts) x o h = struct_own ts x o.1 h
struct_own (control q c ∷ ts) x o h = struct_own ts x o.1 h

-- the fields that structs have more
abbrev pub more_of : Program → List ℕ → More
more_of p x = record { front = more_fields p x; back = [] }

module _ (exact : ReachesIsExact) (p : Program) (well : IsWellTyped p) (parts : HaveParts p.main) (two : same_text (headers_type p) (metadata_type p) ≡ false) (own_H : is_own (headers_type p) ≡ true) (own_M : is_own (metadata_type p) ≡ true)
    (l : Lowered) (i e : Control) (passes : Passes l (program_scope p) (headers_type p) (metadata_type p) (control_roots i) (control_roots e)) (low_entry : AllByRecursion IsLoweredLocal l.entry_locals) (low_exit : AllByRecursion IsLoweredLocal l.exit_locals) (n : ℕ) (small : n < 2 ^ 16) (size : ℕ) (links : List ℕ) where
  abbrev S : Scope
  S = program_scope p

  abbrev R : Structs
  R = structs_of (program_scope p) p

  abbrev H : List ℕ
  H = headers_type p

  abbrev M : List ℕ
  M = metadata_type p

  abbrev u : Scope
  u = front_scope l n

  abbrev pub new : List Top → List Top
  new ts = map (linked_top l size links p) ts

  pub more_H : more_fields p H ≡ tele_field ∷ []
  more_H = ap (λ (b : Bool). cond b (tele_field ∷ []) (cond (same_text M H) (length_field ∷ []) [])) (text_same H H refl)

  pub more_M : more_fields p M ≡ length_field ∷ []
  more_M = ap₂ (λ (a b : Bool). cond a (tele_field ∷ []) (cond b (length_field ∷ []) [])) two (text_same M M refl)

  core_u : Keeps core u
  core_u = after_tops_keeps p.main core (front l n) (passes.front n small p.main)

  -- the given program's scope s, and the linked one's t
  pub record Pair (ts : List Top) (s : Scope) (sc : meaning.Scope) (t : Scope) : Type 0 where
    pub here : Here p well ts s sc
    pub fine : IsFine (tops_tests p.main s ts)
    pub fixed : NoFixed s
    pub fresh : (x : List ℕ) → is_own x ≡ false → t (x ∷ []) ≡ u (x ∷ [])

  to_S : (ts : List Top) (s : Scope) (sc : meaning.Scope) (t : Scope) → Pair ts s sc t → Keeps s S
  to_S ts s sc t b = subst (Keeps s) b.here.at.all (after_tops_keeps p.main s ts b.fine)

  structs_at : (ts : List Top) (s : Scope) (sc : meaning.Scope) (t : Scope) → Pair ts s sc t → Sees is_own (more_of p) u s t → (e : ℕ) → IsFine (type_tests e s (type.Named H)) → IsFine (type_tests e s (type.Named M)) → HasStructs S H M u t
  structs_at ts s sc t b w e fh fm =
      (let k = to_S ts s sc t b in
      has_structs (more_of p) S u s t w (keeps_trans core u t core_u w.front) k H M own_H own_M
      (struct_here S s H b.fixed (k.kept H [] fh.0) (of.headers_struct p well)) (struct_here S s M b.fixed (k.kept M [] fm.0) (of.metadata_struct p well))
      (append-nil (more_fields p H) ∙ more_H) (append-nil (more_fields p M) ∙ more_M))

  -- ---- ingress and egress

  record Sight (t : Scope) (qs : List Param) : Type 0 where
    offers : Offers (roots_of qs 0 1 2) u (with_ways t qs)
    shows : Shows S H M (roots_of qs 0 1 2) (with_ways t qs)

  apply_sight : (ts : List Top) (s : Scope) (sc : meaning.Scope) (t : Scope) → Pair ts s sc t → Sees is_own (more_of p) u s t → (qs : List Param) → IsFine (wanted_tests p.at R apply_wants qs) → IsFine (ways_tests s qs) → IsFine (ways_tests t qs) → Sight t qs
  apply_sight ts s sc t b w [] x f g = broken x
  apply_sight ts s sc t b w (a ∷ []) x f g = broken x.1
  apply_sight ts s sc t b w (a ∷ c ∷ []) x f g = broken x.1.1
  apply_sight ts s sc t b w (a ∷ c ∷ d ∷ e ∷ rest) x f g = broken x.1.1.1.0
  apply_sight ts s sc t b w (a ∷ c ∷ d ∷ []) x f g =
      (let ty_a = of_headers R Both a x.0 in
      let ty_c = of_metadata R Both c x.1.0 in
      let ty_d = core_wanted R Both (codes "standard_metadata_t") d x.1.1.0 in
      let has = structs_at ts s sc t b w c.at (named_fine c.at s a.ty H ty_a (moved a.at c.at s a.ty f.0.1)) (type_before c.at s a.name (way_access a.way) a.ty M (named_fine c.at (declare s a.name (value (way_access a.way) a.ty)) c.ty M ty_c f.1.0.1)) in
      record {
        offers = offered S H M u t has a c d ty_a ty_c ty_d (wanted_way R Both a refl x.0) (wanted_metadata R Both c refl x.1.0) (wanted_core R Both (codes "standard_metadata_t") d refl x.1.1.0) g;
        shows = shown S H M u t has a c d ty_a ty_c ty_d (wanted_way R Both a refl x.0) (wanted_metadata R Both c refl x.1.0) (wanted_core R Both (codes "standard_metadata_t") d refl x.1.1.0) g;
      })
    where
      moved : (i j : ℕ) (s : Scope) (ty : PTy) → IsFine (type_tests i s ty) → IsFine (type_tests j s ty)
      moved i j s (type.Bit w) f = f
      moved i j s type.Bool f = f
      moved i j s (type.Named y) f = f

  -- ---- the parser

  record ParserSight (t : Scope) (qs : List Param) : Type 0 where
    offers : Offers (roots_of qs 1 2 3) u (with_ways t qs)
    packet_in : with_ways t qs (param_name (param_at qs 0) ∷ []) ≡ held Writable PacketIn

  packet_in_core : core (codes "packet_in" ∷ []) ≡ typed false PacketIn
  unfolding core
  packet_in_core = refl

  packet_out_core : core (codes "packet_out" ∷ []) ≡ typed false PacketOut
  unfolding core
  packet_out_core = refl

  parser_sight : (ts : List Top) (s : Scope) (sc : meaning.Scope) (t : Scope) → Pair ts s sc t → Sees is_own (more_of p) u s t → (qs : List Param) → IsFine (wanted_tests p.at R parser_wants qs) → IsFine (ways_tests s qs) → IsFine (ways_tests t qs) → ParserSight t qs
  parser_sight ts s sc t b w [] x f g = broken x
  parser_sight ts s sc t b w (k ∷ []) x f g = broken x.1
  parser_sight ts s sc t b w (k ∷ a ∷ []) x f g = broken x.1.1
  parser_sight ts s sc t b w (k ∷ a ∷ c ∷ []) x f g = broken x.1.1.1
  parser_sight ts s sc t b w (k ∷ a ∷ c ∷ d ∷ j ∷ rest) x f g = broken x.1.1.1.1.0
  parser_sight ts s sc t b w (k ∷ a ∷ c ∷ d ∷ []) x f g =
      (let ty_k = core_wanted R Plain (codes "packet_in") k x.0 in
      let way_k = wanted_core R Plain (codes "packet_in") k refl x.0 in
      let ty_a = of_headers R Out a x.1.0 in
      let ty_c = of_metadata R Both c x.1.1.0 in
      let ty_d = core_wanted R Both (codes "standard_metadata_t") d x.1.1.1.0 in
      let what : Param → What = λ q. value (way_access q.way) q.ty in
      let s1 = declare s k.name (what k) in
      let t1 = declare t k.name (what k) in
      let has = structs_at ts s sc t b w c.at
      (moved (type.Named H) a.at c.at s (type_before a.at s k.name (way_access k.way) k.ty H (named_fine a.at s1 a.ty H ty_a f.1.0.1)))
      (type_before c.at s k.name (way_access k.way) k.ty M (type_before c.at s1 a.name (way_access a.way) a.ty M (named_fine c.at (declare s1 a.name (what a)) c.ty M ty_c f.1.1.0.1))) in
      let k1 : Keeps t t1 = declare_keeps t k.name (what k) g.0.0 in
      let core_t : Keeps core t = keeps_trans core u t core_u w.front in
      let o = offered S H M u t1 (structs_kept S H M u t t1 k1 has) a c d ty_a ty_c ty_d (wanted_way R Out a refl x.1.0) (wanted_metadata R Both c refl x.1.1.0) (wanted_core R Both (codes "standard_metadata_t") d refl x.1.1.1.0) g.1 in
      let self : t1 (k.name ∷ []) ≡ held Writable PacketIn =
      self_stands t k.name (what k) ∙ ap₂ (λ (h : Access) (ty : PTy). held h (typed_thing (type_at t ty []))) way_k ty_k
      ∙ ap (λ (st : Stands). held Writable (typed_thing (as_typed st))) (core_t.kept (codes "packet_in") [] (ap is_missing packet_in_core) ∙ packet_in_core) in
      record {
        offers = o;
        packet_in = (with_ways_keeps t1 (a ∷ c ∷ d ∷ []) g.1).kept k.name [] (ap is_missing self) ∙ self;
      })
    where
      moved : (ty : PTy) (i j : ℕ) (s : Scope) → IsFine (type_tests i s ty) → IsFine (type_tests j s ty)
      moved (type.Bit w) i j s f = f
      moved type.Bool i j s f = f
      moved (type.Named y) i j s f = f

  -- names of the monitor's stand behind own parameters for what they stand for in front
  fresh_ways : (ts : List Top) (s : Scope) (sc : meaning.Scope) (t : Scope) → Pair ts s sc t → (qs : List Param) → OldWays is_own qs → (x : List ℕ) → is_own x ≡ false → with_ways t qs (x ∷ []) ≡ u (x ∷ [])
  fresh_ways ts s sc t b qs o x mine = left_ways is_own x mine t qs o ∙ b.fresh x mine

  parser_fine :
      (q : ℕ) (d : Parser) (ts : List Top) (s : Scope) (sc : meaning.Scope) (t : Scope) → Pair (parser q d ∷ ts) s sc t → OldParser is_own d → EachCan CanSpellState d.states → Sees is_own (more_of p) u s t → IsFine (parser_tests s d)
      → IsFine (parser_tests t (parser_with d d.params (linked_parser size links d).states))
  parser_fine q d ts s sc t b o spelled w f =
      parser_grows is_own s t d d.params (linked_parser size links d).states o.name (same_params is_own s t d.params o.params)
      (λ g.
      (let sight = parser_sight (parser q d ∷ ts) s sc t b w d.params (parts_in_role.parser_params p well q d (b.here.at.within (parser q d) (inl refl))) f.1.0 g in
      let v = before_states t d in
      let k : Keeps (with_ways t d.params) v = with_ends_keeps (with_ways t d.params) in
      let offers : Offers (parser_roots d) u v = offers_kept (parser_roots d) u (with_ways t d.params) v k sight.offers in
      let has = start_among d.at (in_states s d) d.states f.1.1.1.0 in
      let alike = before_states_alike is_own s t w.alike d o.params in
      parser_states_grow exact is_own (parser_roots d) (before_states s d) v (has_length (parser_roots d) u v offers) (added_states (packet_name d) (parser_roots d) size links) d.states spelled
      (parser_begins (packet_name d) (parser_roots d) size links u v offers (k.kept (packet_name d) [] (ap is_missing sight.packet_in) ∙ sight.packet_in) passes.bits
      (offers.tele [] ∙ ap (λ (st : Stands). as_held Writable (as_typed st)) (passes.tele_type n))
      (ap is_missing (other_ends (with_ways t d.params) (codes "hydra_taken") refl ∙ fresh_ways (parser q d ∷ ts) s sc t b d.params o.params (codes "hydra_taken") refl) ∙ passes.no_taken n)
      (ap is_missing (other_ends (with_ways t d.params) (codes "hydra_start") refl ∙ fresh_ways (parser q d ∷ ts) s sc t b d.params o.params (codes "hydra_start") refl) ∙ passes.no_start n)
      d.states o.states has
      (ap is_missing (sym (alike.same (codes "start" ∷ []) (refl, tt))) ∙ names_missing (before_states s d) d.states (codes "start") f.1.1.0 has))))
      w.alike f

  -- ---- controls

  -- the root of standard metadata where there are two parameters
  no_standard : (qs : List Param) → IsFine (wanted_tests p.at R checksum_wants qs) → (roots_of qs 0 1 2).standard ≡ []
  no_standard [] x = refl
  no_standard (a ∷ []) x = refl
  no_standard (a ∷ c ∷ []) x = refl
  no_standard (a ∷ c ∷ d ∷ rest) x = broken x.1.1.0

  record EmitSight (t : Scope) (qs : List Param) : Type 0 where
    packet : Access
    headers : Access
    out : with_ways t qs (param_name (param_at qs 0) ∷ []) ≡ held packet PacketOut
    there : is_missing (with_ways t qs (param_name (param_at qs 1) ∷ [])) ≡ false
    tele : with_ways t qs (param_name (param_at qs 1) ∷ tele_name ∷ []) ≡ held headers (Header passes.bits)

  emit_sight : (ts : List Top) (s : Scope) (sc : meaning.Scope) (t : Scope) → Pair ts s sc t → Sees is_own (more_of p) u s t → (qs : List Param) → IsFine (wanted_tests p.at R deparser_wants qs) → IsFine (ways_tests s qs) → IsFine (ways_tests t qs) → EmitSight t qs
  emit_sight ts s sc t b w [] x f g = broken x
  emit_sight ts s sc t b w (k ∷ []) x f g = broken x.1
  emit_sight ts s sc t b w (k ∷ a ∷ c ∷ rest) x f g = broken x.1.1.0
  emit_sight ts s sc t b w (k ∷ a ∷ []) x f g =
      (let ty_k = core_wanted R Plain (codes "packet_out") k x.0 in
      let ty_a = of_headers R Into a x.1.0 in
      let what : Param → What = λ q. value (way_access q.way) q.ty in
      let s1 = declare s k.name (what k) in
      let t1 = declare t k.name (what k) in
      let t2 = declare t1 a.name (what a) in
      let fh = type_before a.at s k.name (way_access k.way) k.ty H (named_fine a.at s1 a.ty H ty_a f.1.0.1) in
      let sS = to_S ts s sc t b in
      let struct_H = struct_here S s H b.fixed (sS.kept H [] fh.0) (of.headers_struct p well) in
      let there_H : is_missing (t (H ∷ [])) ≡ false = ap is_missing (sym (w.alike.same (H ∷ []) (own_H, tt))) ∙ ap is_missing struct_H in
      let tele_t : t (H ∷ tele_name ∷ []) ≡ typed false (Header passes.bits) =
      w.wider H own_H struct_H tele_name [] refl ∙ ap (λ (fs : List (PTy × List ℕ)). field_at u fs tele_name []) (append-nil (more_fields p H) ∙ more_H) ∙ ap as_typed (passes.tele_type n) in
      let k1 : Keeps t t1 = declare_keeps t k.name (what k) g.0.0 in
      let k2 : Keeps t1 t2 = declare_keeps t1 a.name (what a) g.1.0.0 in
      let core_t : Keeps core t = keeps_trans core u t core_u w.front in
      let self : t1 (k.name ∷ []) ≡ held (way_access k.way) PacketOut =
      self_stands t k.name (what k) ∙ ap (λ (ty : PTy). held (way_access k.way) (typed_thing (type_at t ty []))) ty_k
      ∙ ap (λ (st : Stands). held (way_access k.way) (typed_thing (as_typed st))) (core_t.kept (codes "packet_out") [] (ap is_missing packet_out_core) ∙ packet_out_core) in
      record {
        packet = way_access k.way;
        headers = way_access a.way;
        out = k2.kept k.name [] (ap is_missing self) ∙ self;
        there = ap is_missing (self_stands t1 a.name (what a));
        tele = declared t1 a.name (what a) (tele_name ∷ []) ∙ ap (λ (ty : PTy). as_held (way_access a.way) (type_at t1 ty (tele_name ∷ []))) ty_a
            ∙ ap (λ (st : Stands). as_held (way_access a.way) (as_typed st)) (k1.kept H (tele_name ∷ []) there_H ∙ tele_t);
      })

  own_not_mine : (x : List ℕ) → is_mine x ≡ true → is_own x ≡ false
  own_not_mine x h = ap not h

  module _ (q : ℕ) (c : Control) (ts : List Top) (s : Scope) (sc : meaning.Scope) (t : Scope) (b : Pair (control q c ∷ ts) s sc t) (o : OldControl is_own c) (spelled : CanSpellStmts c.apply) (w : Sees is_own (more_of p) u s t) where
    abbrev v : Scope
    v = with_ways t c.params

    params_at : (h : Part) → part_in p.main c.name ≡ h → IsFine (wanted_tests p.at R (wants_of h) c.params)
    params_at h is = subst (λ (k : Part). IsFine (wanted_tests p.at R (wants_of k) c.params)) is (parts_in_role.control_params p well q c (b.here.at.within (control q c) (inl refl)))

    new_ways : IsFine (ways_tests s c.params) → IsFine (ways_tests t c.params)
    new_ways f = subst IsFine (ways_alike is_own s t w.alike c.params o.params) f

    fresh : IsFresh u v
    fresh x mine none = ap is_missing (fresh_ways (control q c ∷ ts) s sc t b c.params o.params x (own_not_mine x mine)) ∙ none

    moved_part : (h : Part) → part_in p.main c.name ≡ h → (d : Control) → (IsFine (control_tests h s c) → IsFine (control_tests h t d)) → IsFine (control_tests (part_in p.main c.name) s c) → IsFine (control_tests (part_in p.main c.name) t d)
    moved_part h is d g f = subst (λ (k : Part). IsFine (control_tests k t d)) (sym is) (g (subst (λ (k : Part). IsFine (control_tests k s c)) is f))

    abbrev made : Place → Control
    made k = control_with c c.params (locals_at l links k c) (apply_at l links k c)

    ingress_fine : i ≡ c → part_in p.main c.name ≡ place.Apply → IsFine (control_tests (part_in p.main c.name) s c) → IsFine (control_tests (part_in p.main c.name) t (made is_ingress))
    ingress_fine one is =
        moved_part place.Apply is (made is_ingress)
        (λ f.
        (let sight = apply_sight (control q c ∷ ts) s sc t b w c.params (params_at place.Apply is) f.1.0 (new_ways f.1.0) in
        let same : control_roots c ≡ control_roots i = ap control_roots (sym one) in
        ingress_grows l S H M (control_roots i) (control_roots e) passes low_entry low_exit n links s t c o w.alike same
        (subst (λ (r : Roots). Offers r u v) same sight.offers) (subst (λ (r : Roots). Shows S H M r v) same sight.shows) fresh f))

    egress_fine : e ≡ c → part_in p.main c.name ≡ place.Apply → IsFine (control_tests (part_in p.main c.name) s c) → IsFine (control_tests (part_in p.main c.name) t (made is_egress))
    egress_fine one is =
        moved_part place.Apply is (made is_egress)
        (λ f.
        (let sight = apply_sight (control q c ∷ ts) s sc t b w c.params (params_at place.Apply is) f.1.0 (new_ways f.1.0) in
        let same : control_roots c ≡ control_roots e = ap control_roots (sym one) in
        egress_grows l S H M (control_roots i) (control_roots e) passes low_entry low_exit n links s t c o w.alike same
        (subst (λ (r : Roots). Offers r u v) same sight.offers) (subst (λ (r : Roots). Shows S H M r v) same sight.shows) fresh f))

    deparser_fine : part_in p.main c.name ≡ place.Deparser → IsFine (control_tests (part_in p.main c.name) s c) → IsFine (control_tests (part_in p.main c.name) t (made is_deparser))
    deparser_fine is =
        moved_part place.Deparser is (made is_deparser)
        (λ f.
        (let sight = emit_sight (control q c ∷ ts) s sc t b w c.params (params_at place.Deparser is) f.1.0 (new_ways f.1.0) in
        deparser_grows s t c o w.alike sight.packet sight.headers passes.bits sight.out sight.there sight.tele f))

    other_fine : (control_roots c).standard ≡ [] → IsFine (control_tests (part_in p.main c.name) s c) → IsFine (control_tests (part_in p.main c.name) t (made is_other))
    other_fine none f =
        subst (λ (ss : Stmts). IsFine (control_tests (part_in p.main c.name) t (control_with c c.params c.locals ss))) (sym (stmts_none (control_roots c) none c.apply spelled))
        (subst IsFine (control_alike is_own s t w.alike (part_in p.main c.name) c o) f)

    control_fine :
        (place_in p.main c.name ≡ is_ingress → i ≡ c) → (place_in p.main c.name ≡ is_egress → e ≡ c) → IsFine (control_tests (part_in p.main c.name) s c)
        → IsFine (control_tests (part_in p.main c.name) t (made (place_in p.main c.name)))
    control_fine first second f = go (place_in p.main c.name) refl (place_part p well parts c.name (parts_in_role.controls p well q c (b.here.at.within (control q c) (inl refl))))
      where
        go : (k : Place) → place_in p.main c.name ≡ k → IsAtPlace p well parts k (part_in p.main c.name) → IsFine (control_tests (part_in p.main c.name) t (made k))
        go is_ingress at h = ingress_fine (first at) h f
        go is_egress at h = egress_fine (second at) h f
        go is_deparser at h = deparser_fine h f
        go is_other at (inl h) = other_fine (no_standard c.params (params_at place.Verify h)) f
        go is_other at (inr h) = other_fine (no_standard c.params (params_at place.Compute h)) f

  -- ---- fields

  once_more : (x : List ℕ) → (a b : Bool) → MoreIsNew is_own (record { front = cond a (tele_field ∷ []) (cond b (length_field ∷ []) []); back = [] })
  once_more x true b = record { front = (refl, tt); back = tt }
  once_more x false true = record { front = (refl, tt); back = tt }
  once_more x false false = record { front = tt; back = tt }

  more_new : (x : List ℕ) → MoreIsNew is_own (more_of p x)
  more_new x = once_more x (same_text H x) (same_text M x)

  tele_fine : (q : ℕ) → IsFine (fields_tests q is_no_field u (tele_field ∷ []))
  tele_fine q =
      (((ap is_missing (passes.tele_type n), ap (λ (st : Stands). not (is_type st)) (passes.tele_type n)), ap (λ (st : Stands). is_no_field (typed_thing (as_typed st))) (passes.tele_type n)), tt)

  fits : (q : ℕ) (a b : Bool) → MoreFits q u (record { front = cond a (tele_field ∷ []) (cond b (length_field ∷ []) []); back = [] })
  fits q true b = record { once = refl; front = tele_fine q; back = tt }
  fits q false true = record { once = refl; front = ((refl, refl), tt); back = tt }
  fits q false false = record { once = refl; front = tt; back = tt }

  more_fits : (q : ℕ) (x : List ℕ) → MoreFits q u (more_of p x)
  more_fits q x = fits q (same_text H x) (same_text M x)

  -- ---- along the declarations

  left_top : (t : Scope) (y : Top) → OldTop is_own y → (x : List ℕ) → is_own x ≡ false → after_top t (linked_top l size links p y) (x ∷ []) ≡ t (x ∷ [])
  left_top t (constant q k y z) o x mine = undeclared t y _ x [] (old_is_other is_own y x o.1 mine)
  left_top t (typedef q k y) o x mine = undeclared t y _ x [] (old_is_other is_own y x o.1 mine)
  left_top t (header_type q y fs) o x mine = undeclared t y _ x [] (old_is_other is_own y x o.0 mine)
  left_top t (struct_type q y fs) o x mine = undeclared t y _ x [] (old_is_other is_own y x o.0 mine)
  left_top t (register q d) o x mine = undeclared t d.name _ x [] (old_is_other is_own d.name x o.0 mine)
  left_top t (parser q d) o x mine = undeclared t d.name _ x [] (old_is_other is_own d.name x o.name mine)
  left_top t (control q c) o x mine = undeclared t c.name _ x [] (old_is_other is_own c.name x o.name mine)

  next_pair : (y : Top) (ts : List Top) (s : Scope) (sc : meaning.Scope) (t : Scope) → OldTop is_own y → Pair (y ∷ ts) s sc t → Pair ts (after_top s y) (behind_top sc y) (after_top t (linked_top l size links p y))
  next_pair y ts s sc t o b =
      record {
        here = next_here p well y ts s sc b.here b.fine;
        fine = b.fine.1;
        fixed = fixed_top s y b.fixed;
        fresh = λ x mine. left_top t y o x mine ∙ b.fresh x mine;
      }

  abbrev Grow : Scope → Scope → List Top → List Top → Type 0
  Grow s t ys zs = TopsGrow is_own (more_of p) false p.main u s t ys zs

  -- one declaration, before any others
  pub step :
      (y : Top) (ts : List Top) (s : Scope) (sc : meaning.Scope) (t : Scope) → Pair (y ∷ ts) s sc t → OldTop is_own y → CanSpellTop y → AreTheOnes p.main i e (y ∷ ts) → (ys zs : List Top) → Grow (after_top s y) (after_top t (linked_top l size links p y)) ys zs
      → Grow s t (y ∷ ys) (linked_top l size links p y ∷ zs)
  step (constant q k x z) ts s sc t b o h a ys zs rest = same_top (constant q k x z) refl o rest
  step (typedef q k x) ts s sc t b o h a ys zs rest = same_top (typedef q k x) refl o rest
  step (header_type q x fs) ts s sc t b o h a ys zs rest = same_top (header_type q x fs) refl o rest
  step (register q d) ts s sc t b o h a ys zs rest = same_top (register q d) refl o rest
  step (struct_type q x fs) ts s sc t b o h a ys zs rest =
      (let P : List (PTy × List ℕ) → Type 0 = λ gs. Grow (after_top s (struct_type q x fs)) (after_top t (struct_type q x (more_fields p x ++ gs))) ys zs in
      let Q : List (PTy × List ℕ) → Type 0 = λ gs. Grow s t (struct_type q x fs ∷ ys) (struct_type q x (more_fields p x ++ gs) ∷ zs) in
      subst Q (append-nil fs) (wider_struct q x fs o.0 o.1 (more_new x) (more_fits q x) (subst P (sym (append-nil fs)) rest)))
  step (parser q d) ts s sc t b o h a ys zs rest = other_states q d d.params (linked_parser size links d).states refl o.params (λ w f. parser_fine q d ts s sc t b o h.2 w f) rest
  step (control q c) ts s sc t b o h a ys zs rest =
      other_control q c c.params (locals_at l links (place_in p.main c.name) c) (apply_at l links (place_in p.main c.name) c) refl (λ w f. control_fine q c ts s sc t b o h.3 w a.0 a.1 f) rest

  pub further : (y : Top) (ts : List Top) → AreTheOnes p.main i e (y ∷ ts) → AreTheOnes p.main i e ts
  further (constant q k x z) ts a = a
  further (typedef q k x) ts a = a
  further (header_type q x fs) ts a = a
  further (struct_type q x fs) ts a = a
  further (register q d) ts a = a
  further (parser q d) ts a = a
  further (control q c) ts a = a.2

  pub tops_grow : (ts : List Top) (s : Scope) (sc : meaning.Scope) (t : Scope) → Pair ts s sc t → OldTops is_own ts → EachCan CanSpellTop ts → AreTheOnes p.main i e ts → Grow s t ts (new ts)
  tops_grow [] s sc t b o h a = no_top
  tops_grow (y ∷ ts) s sc t b o h a = step y ts s sc t b o.0 h.0 a ts (new ts) (tops_grow ts _ _ _ (next_pair y ts s sc t o.0 b) o.1 h.1 (further y ts a))

  -- ---- digests

  -- what is seen behind it
  sees_next : (y : Top) (ts : List Top) (s : Scope) (sc : meaning.Scope) (t : Scope) → Pair (y ∷ ts) s sc t → OldTop is_own y → CanSpellTop y → AreTheOnes p.main i e (y ∷ ts) → Sees is_own (more_of p) u s t
      → Sees is_own (more_of p) u (after_top s y) (after_top t (linked_top l size links p y))
  sees_next y ts s sc t b o h a w = (growth.tops_grow (step y ts s sc t b o h a [] [] no_top) w (b.fine.0, tt)).1

  module _ (en ex : ℕ) (tells : Tells l (program_scope p) (headers_type p) (metadata_type p) (control_roots i) (control_roots e) en ex) where
    -- in its part
    told_in : (h g : Part) (s t : Scope) (c d : Control) (m : ℕ) → g ≡ h → most_of_part h t d ≡ add_up m (most_of_part h s c) → most_of_part g t d ≡ add_up m (most_of_part g s c)
    told_in h g s t c d m is e = subst (λ (y : Part). most_of_part y t d ≡ add_up m (most_of_part y s c)) (sym is) e

    control_told : (q : ℕ) (c : Control) (ts : List Top) (s : Scope) (sc : meaning.Scope) (t : Scope) (b : Pair (control q c ∷ ts) s sc t) (o : OldControl is_own c) (spelled : CanSpellStmts c.apply) (w : Sees is_own (more_of p) u s t)
        → (place_in p.main c.name ≡ is_ingress → i ≡ c) → (place_in p.main c.name ≡ is_egress → e ≡ c) → IsFine (control_tests (part_in p.main c.name) s c)
        → most_of_part (part_in p.main c.name) t (control_at l links (place_in p.main c.name) c) ≡ add_up (told_more en ex (place_in p.main c.name)) (most_of_part (part_in p.main c.name) s c)
    control_told q c ts s sc t b o spelled w first second f = go (place_in p.main c.name) refl (place_part p well parts c.name (parts_in_role.controls p well q c (b.here.at.within (control q c) (inl refl))))
      where
        g : part_in p.main c.name ≡ place.Apply → IsFine (control_tests place.Apply s c)
        g is = subst (λ (h : Part). IsFine (control_tests h s c)) is f

        at_apply : part_in p.main c.name ≡ place.Apply → Sight t c.params
        at_apply is = apply_sight (control q c ∷ ts) s sc t b w c.params (params_at q c ts s sc t b o spelled w place.Apply is) (g is).1.0 (new_ways q c ts s sc t b o spelled w (g is).1.0)

        go : (k : Place) → place_in p.main c.name ≡ k → IsAtPlace p well parts k (part_in p.main c.name)
            → most_of_part (part_in p.main c.name) t (control_at l links k c) ≡ add_up (told_more en ex k) (most_of_part (part_in p.main c.name) s c)
        go is_ingress at m =
            (let sight = at_apply m in
            let same : control_roots c ≡ control_roots i = ap control_roots (sym (first at)) in
            told_in place.Apply (part_in p.main c.name) s t c (control_at l links is_ingress c) en m
            (ingress_most l S H M (control_roots i) (control_roots e) passes low_entry low_exit n links en ex tells s t c o w.alike (g m) same
            (subst (λ (r : Roots). Offers r u (with_ways t c.params)) same sight.offers) (subst (λ (r : Roots). Shows S H M r (with_ways t c.params)) same sight.shows) (fresh q c ts s sc t b o spelled w)))
        go is_egress at m =
            (let sight = at_apply m in
            let same : control_roots c ≡ control_roots e = ap control_roots (sym (second at)) in
            told_in place.Apply (part_in p.main c.name) s t c (control_at l links is_egress c) ex m
            (egress_most l S H M (control_roots i) (control_roots e) passes low_entry low_exit n links en ex tells s t c o w.alike (g m) same
            (subst (λ (r : Roots). Offers r u (with_ways t c.params)) same sight.offers) (subst (λ (r : Roots). Shows S H M r (with_ways t c.params)) same sight.shows) (fresh q c ts s sc t b o spelled w)))
        go is_deparser at m = told_in place.Deparser (part_in p.main c.name) s t c (control_at l links is_deparser c) 0 m refl
        go is_other at (inl m) = told_in place.Verify (part_in p.main c.name) s t c (control_at l links is_other c) 0 m refl
        go is_other at (inr m) = told_in place.Compute (part_in p.main c.name) s t c (control_at l links is_other c) 0 m refl

    top_told : (y : Top) (ts : List Top) (s : Scope) (sc : meaning.Scope) (t : Scope) → Pair (y ∷ ts) s sc t → OldTop is_own y → CanSpellTop y → AreTheOnes p.main i e (y ∷ ts) → Sees is_own (more_of p) u s t
        → most_of_top p.main t (linked_top l size links p y) ≡ told_top p.main en ex s y
    top_told (constant q k x z) ts s sc t b o h a w = refl
    top_told (typedef q k x) ts s sc t b o h a w = refl
    top_told (header_type q x fs) ts s sc t b o h a w = refl
    top_told (struct_type q x fs) ts s sc t b o h a w = refl
    top_told (register q d) ts s sc t b o h a w = refl
    top_told (parser q d) ts s sc t b o h a w = refl
    top_told (control q c) ts s sc t b o h a w = control_told q c ts s sc t b o h.3 w a.0 a.1 b.fine.0

    pub tops_told : (ts : List Top) (s : Scope) (sc : meaning.Scope) (t : Scope) → Pair ts s sc t → OldTops is_own ts → EachCan CanSpellTop ts → AreTheOnes p.main i e ts → Sees is_own (more_of p) u s t → most_of_tops p.main t (new ts) ≡ told p.main en ex s ts
    tops_told [] s sc t b o h a w = refl
    tops_told (y ∷ ts) s sc t b o h a w =
        ap₂ add_up (top_told y ts s sc t b o.0 h.0 a w) (tops_told ts _ _ _ (next_pair y ts s sc t o.0 b) o.1 h.1 (further y ts a) (sees_next y ts s sc t b o.0 h.0 a w))

  -- ---- what tables and actions hold

  control_holds : (q : ℕ) (c : Control) (ts : List Top) (s : Scope) (sc : meaning.Scope) (t : Scope) (b : Pair (control q c ∷ ts) s sc t) (o : OldControl is_own c) (spelled : CanSpellStmts c.apply) (w : Sees is_own (more_of p) u s t)
      → (place_in p.main c.name ≡ is_ingress → i ≡ c) → (place_in p.main c.name ≡ is_egress → e ≡ c) → IsFine (control_tests (part_in p.main c.name) s c)
      → locals_hold (with_ways t c.params) (locals_at l links (place_in p.main c.name) c) ≡ locals_hold (with_ways s c.params) c.locals
  control_holds q c ts s sc t b o spelled w first second f = go (place_in p.main c.name) refl (place_part p well parts c.name (parts_in_role.controls p well q c (b.here.at.within (control q c) (inl refl))))
    where
      alike : Alike is_own (with_ways s c.params) (with_ways t c.params)
      alike = with_ways_alike is_own s t w.alike c.params o.params

      g : part_in p.main c.name ≡ place.Apply → IsFine (control_tests place.Apply s c)
      g is = subst (λ (h : Part). IsFine (control_tests h s c)) is f

      at_apply : part_in p.main c.name ≡ place.Apply → Sight t c.params
      at_apply is = apply_sight (control q c ∷ ts) s sc t b w c.params (params_at q c ts s sc t b o spelled w place.Apply is) (g is).1.0 (new_ways q c ts s sc t b o spelled w (g is).1.0)

      go : (k : Place) → place_in p.main c.name ≡ k → IsAtPlace p well parts k (part_in p.main c.name) → locals_hold (with_ways t c.params) (locals_at l links k c) ≡ locals_hold (with_ways s c.params) c.locals
      go is_ingress at m =
          (let sight = at_apply m in
          let same : control_roots c ≡ control_roots i = ap control_roots (sym (first at)) in
          let fine = passes.entry_locals n (with_ways t c.params) (subst (λ (r : Roots). Offers r u (with_ways t c.params)) same sight.offers) (subst (λ (r : Roots). Shows S H M r (with_ways t c.params)) same sight.shows) (fresh q c ts s sc t b o spelled w) in
          more_hold (control_roots c) place.Apply (with_ways s c.params) (with_ways t c.params) alike (has_length (control_roots c) u (with_ways t c.params) sight.offers) l.entry_locals c.locals low_entry fine o.locals (g m).1.1.0)
      go is_egress at m =
          (let sight = at_apply m in
          let same : control_roots c ≡ control_roots e = ap control_roots (sym (second at)) in
          let fine = passes.exit_locals n (with_ways t c.params) (subst (λ (r : Roots). Offers r u (with_ways t c.params)) same sight.offers) (subst (λ (r : Roots). Shows S H M r (with_ways t c.params)) same sight.shows) (fresh q c ts s sc t b o spelled w) in
          more_hold (control_roots c) place.Apply (with_ways s c.params) (with_ways t c.params) alike (has_length (control_roots c) u (with_ways t c.params) sight.offers) l.exit_locals c.locals low_exit fine o.locals (g m).1.1.0)
      go is_deparser at m = plain_hold (with_ways s c.params) (with_ways t c.params) alike c.locals o.locals
      go is_other at m = plain_hold (with_ways s c.params) (with_ways t c.params) alike c.locals o.locals

  pub tops_same_hold : (ts : List Top) (s : Scope) (sc : meaning.Scope) (t : Scope) → Pair ts s sc t → OldTops is_own ts → EachCan CanSpellTop ts → AreTheOnes p.main i e ts → Sees is_own (more_of p) u s t → tops_hold t (new ts) ≡ tops_hold s ts
  tops_same_hold [] s sc t b o h a w = refl
  tops_same_hold (control q c ∷ ts) s sc t b o h a w =
      ap₂ (λ (x : List (List ℕ × List Kind)) (y : List (List ℕ × List (List ℕ × List Kind))). (c.name, x) ∷ y) (control_holds q c ts s sc t b o.0 h.0.3 w a.0 a.1 b.fine.0)
      (tops_same_hold ts _ _ _ (next_pair (control q c) ts s sc t o.0 b) o.1 h.1 a.2 (sees_next (control q c) ts s sc t b o.0 h.0 a w))
  tops_same_hold (constant q k x z ∷ ts) s sc t b o h a w = tops_same_hold ts _ _ _ (next_pair (constant q k x z) ts s sc t o.0 b) o.1 h.1 a (sees_next (constant q k x z) ts s sc t b o.0 h.0 a w)
  tops_same_hold (typedef q k x ∷ ts) s sc t b o h a w = tops_same_hold ts _ _ _ (next_pair (typedef q k x) ts s sc t o.0 b) o.1 h.1 a (sees_next (typedef q k x) ts s sc t b o.0 h.0 a w)
  tops_same_hold (header_type q x fs ∷ ts) s sc t b o h a w = tops_same_hold ts _ _ _ (next_pair (header_type q x fs) ts s sc t o.0 b) o.1 h.1 a (sees_next (header_type q x fs) ts s sc t b o.0 h.0 a w)
  tops_same_hold (struct_type q x fs ∷ ts) s sc t b o h a w = tops_same_hold ts _ _ _ (next_pair (struct_type q x fs) ts s sc t o.0 b) o.1 h.1 a (sees_next (struct_type q x fs) ts s sc t b o.0 h.0 a w)
  tops_same_hold (register q d ∷ ts) s sc t b o h a w = tops_same_hold ts _ _ _ (next_pair (register q d) ts s sc t o.0 b) o.1 h.1 a (sees_next (register q d) ts s sc t b o.0 h.0 a w)
  tops_same_hold (parser q d ∷ ts) s sc t b o h a w = tops_same_hold ts _ _ _ (next_pair (parser q d) ts s sc t o.0 b) o.1 h.1 a (sees_next (parser q d) ts s sc t b o.0 h.0 a w)
