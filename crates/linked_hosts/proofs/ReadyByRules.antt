-- A well-typed program with own names that can be spelled is ready to be linked.
use Rattle.std.proofs.Common.{codes, ◌≡◌, ◌⊎◌, inl, inr, ℕ, List, [], ◌∷◌, Bool, true, false, cond, not, ◌&&◌, ◌||◌, Option, Some, None, is_some, refl, sym, ap, ap₂, ◌∙◌, subst}
use Rattle.std.specs.List.{AllByRecursion}
use Rattle.bit_values.specs.Bits.{Word}
use Rattle.lex_text.specs.Names.{same_text}
use Rattle.rule_tests.specs.Tests.{IsFine}
use Rattle.p4_tree.specs.Tree.{Local, local_action, local_table, local_register, local_const, local_var, Control, Parser, Top, constant, typedef, header_type, struct_type, register, parser, control, Program}
use Rattle.p4_tree.specs.declared.statement.PTy.TheVariants as type
use Rattle.p4_tree.specs.declared.program.Param.{Param}
use Rattle.p4_tree.specs.declared.program.Way.TheVariants.{Plain}
use Rattle.p4_meaning.specs.Standard.{headers_root, metadata_root}
use Rattle.p4_meaning.specs.Scope as meaning
use Rattle.p4_meaning.specs.Scope.{Roots, roots_of, constant_named, is_among, own_names, first_name}
use Rattle.p4_meaning.specs.Under as under
use Rattle.p4_meaning.specs.Under.{no_scope, behind_top, behind_local, behind_locals, in_parser}
use Rattle.p4_meaning.specs.Parts.{control_named, parser_named, named_in, parser_in, control_in}
use Rattle.p4_scopes.specs.Scopes.{Stands, missing, typed, is_missing, as_held, as_typed, typed_thing, type_at, thing_in, Scope, What, alias, fields, value, part, declare, behind, fields_bits, act, function, other, core}
use Rattle.p4_scopes.specs.Scopes as scope
use Rattle.p4_scopes.specs.Uses.{is_scalar}
use Rattle.p4_scopes.specs.declared.thing.Thing.{Thing}
use Rattle.p4_scopes.specs.declared.thing.Thing.TheVariants.{Scalar, Header, Struct, Standard, PacketIn, PacketOut}
use Rattle.p4_scopes.specs.declared.thing.Function.TheVariants.{MarkToDrop, Digest, VerifyChecksum, UpdateChecksum}
use Rattle.p4_scopes.specs.declared.thing.Access.TheVariants.{Constant}
use Rattle.p4_statement_rules.specs.Forms.{has_calls_alone}
use Rattle.p4_statement_rules.specs.declared.rule.Part.{Part}
use Rattle.p4_statement_rules.specs.declared.rule.Part.TheVariants as place
use Rattle.p4_declaration_rules.specs.Parsers.{way_access, with_ways, ways_tests, before_states, in_states, parser_tests}
use Rattle.p4_declaration_rules.specs.Controls.{local_tests, after_local, locals_tests, in_control, control_tests, part_in, top_tests, after_top, tops_tests, after_tops}
use Rattle.p4_rules.specs.Mains.{Wanted, apply_wants, checksum_wants, parser_wants, is_struct, Structs, structs_of, wanted_tests, has_controls, names_parts}
use Rattle.p4_parser_states.specs.Cycles as cycles
use Rattle.p4_declaration_rules.specs.Declarations.{has_twice}
use Rattle.p4_rule_laws.specs.Growth.{has_struct}
use Rattle.p4_rules.specs.ProgramRules.{program_scope, IsWellTyped}
use Rattle.p4_printer.specs.CanSpell.{IsName, EachCan, SomeCan, CanSpellParam, CanSpellTop, CanSpell}
use Rattle.p4_rule_laws.specs.Kept.{Keeps}
use Rattle.p4_rule_laws.specs.Roles.{wants_of, is_main_part, In}
use Rattle.p4_rule_laws.proofs.RoleFacts.{parts_in_role}
use Rattle.p4_rule_laws.proofs.KeepsLemmas.{keeps_trans, declare_keeps, with_ways_keeps, after_local_keeps, after_top_keeps}
use Rattle.p4_typing_laws.proofs.Fine.{twice_not, neither, typed_fine}
use Rattle.p4_typing_laws.proofs.FineUses.{parts_named}
use Rattle.p4_typing_laws.proofs.CallCounts.{text_is, text_same}
use Rattle.p4_typing_laws.proofs.CountedNames.{self_stands, was_missing, KeepsCore}
use Rattle.p4_typing_laws.proofs.CountedLocals.{IsNew, own_missing, own_new}
use Rattle.p4_typing_laws.proofs.FullNames.{other_text}
use Rattle.exit_programs.proofs.MainParts.{HaveParts, have_parts}
use Rattle.own_programs.specs.OwnPrograms.{HasOwnNames}
use Rattle.own_programs.proofs.Names.{broken}
use Rattle.own_programs.proofs.Places.{is_held}
use Rattle.own_programs.proofs.Params.{both_hold, Holds, parser_holds, holds_before, core_wanted}
use Rattle.own_programs.proofs.Programs as of
use Rattle.own_programs.proofs.Programs.{IsAt, no_locals}
use Rattle.linked_programs.specs.Linked.{Place, is_ingress, is_egress, is_deparser, is_other, place_in, control_roots, parser_roots, headers_type, metadata_type}
use Rattle.linked_programs.specs.Reads.{StmtsReadIn}
use Rattle.linked_programs.specs.Ready.{ReadyApply, ReadySums, ReadyControl, ReadyParser, AreReady, AreTheOnes}
use Rattle.linked_programs.proofs.PartsLinked.{parts_are_linked}
use Rattle.switch_machines.specs.Programs.{ports_at}
use Rattle.linked_hosts.proofs.FieldsSound.{fields_sound}
use Rattle.linked_hosts.specs.Linkable.{Linkable, WellTypedIsLinkable, LinkedHasParts, LinkedIsHost}
use Rattle.linked_hosts.proofs.Spots.{NoSum, core_sum, sum_declared, ReadsBy, Spot, spot_locals, spot_ends, spot_states, block_reads, locals_read, states_read}
use Rattle.linked_hosts.proofs.ReadyParams.{AreApart, roots_stand, metadata_stands, reads_none, reads_declared, reads_silent, sums_ways, headers_read, metadata_read, three_apart, missing_first, three_read, turned, headers_stand}

-- ---- constants

abbrev pub AreKnown : Scope → List (List ℕ × Word) → Type 0
AreKnown s cs = AllByRecursion (λ (k : List ℕ × Word). is_missing (s (k.0 ∷ [])) ≡ false) cs

known_kept : (s t : Scope) → Keeps s t → (cs : List (List ℕ × Word)) → AreKnown s cs → AreKnown t cs
known_kept s t k [] h = tt
known_kept s t k (c ∷ cs) h = (ap is_missing (k.kept c.0 [] h.0) ∙ h.0, known_kept s t k cs h.1)

-- what stands for nothing is no constant
no_constant : (s : Scope) (x : List ℕ) → is_missing (s (x ∷ [])) ≡ true → (cs : List (List ℕ × Word)) → AreKnown s cs → constant_named cs x ≡ None
no_constant s x m [] h = refl
no_constant s x m (c ∷ cs) h = go (same_text c.0 x) refl (no_constant s x m cs h.1)
  where
    go : (b : Bool) → same_text c.0 x ≡ b → constant_named cs x ≡ None → cond b (Some c.1) (constant_named cs x) ≡ None
    go true e n = broken (sym m ∙ ap (λ (y : List ℕ). is_missing (s (y ∷ []))) (sym (text_is c.0 x e)) ∙ h.0)
    go false e n = n

-- behind local declarations a name that stood for something is no constant more
locals_none : (h : Part) (x : List ℕ) (ls : List Local) (s : Scope) (sc : meaning.Scope) → is_missing (s (x ∷ [])) ≡ false → constant_named sc.constants x ≡ None → IsFine (locals_tests h s ls) → constant_named (behind_locals sc ls).constants x ≡ None
locals_none h x [] s sc there n f = n
locals_none h x (l ∷ ls) s sc there n f = locals_none h x ls (after_local s l) (behind_local sc l) (ap is_missing ((after_local_keeps h s l f.0).kept x [] there) ∙ there) (step l f.0) f.1
  where
    step : (l : Local) → IsFine (local_tests h s l) → constant_named (behind_local sc l).constants x ≡ None
    step (local_action p a) g = n
    step (local_table p t) g = n
    step (local_register p d) g = n
    step (local_var p t y e) g = n
    step (local_const p t y e) g = go _ (same_text y x) refl
      where
        go : (w : Word) (b : Bool) → same_text y x ≡ b → cond b (Some w) (constant_named sc.constants x) ≡ None
        go w true i = broken (sym (twice_not _ g.1.0) ∙ ap (λ (z : List ℕ). is_missing (s (z ∷ []))) (text_is y x i) ∙ there)
        go w false i = n

-- ---- parameters of ingress and egress

pub record ApplyFacts (s : Scope) (sd : meaning.Scope) (qs : List Param) : Type 0 where
  pub apart : AreApart (roots_of qs 0 1 2)
  pub reads : ReadsBy (roots_of qs 0 1 2) (with_ways s qs) sd
  pub before : is_missing (s ((roots_of qs 0 1 2).standard ∷ [])) ≡ true
  pub metadata : is_missing (with_ways s qs ((roots_of qs 0 1 2).metadata ∷ [])) ≡ false
  pub standard : is_missing (with_ways s qs ((roots_of qs 0 1 2).standard ∷ [])) ≡ false

stands_self : (s : Scope) (q : Param) → is_missing (declare s q.name (value (way_access q.way) q.ty) (q.name ∷ [])) ≡ false
stands_self s q = ap is_missing (self_stands s q.name (value (way_access q.way) q.ty))

apply_facts : (at : ℕ) (r : Structs) (s : Scope) (sd : meaning.Scope) → sd.inner ≡ None → ((x y : List ℕ) (ys : List (List ℕ)) → is_held (s (x ∷ y ∷ ys)) ≡ false) → (qs : List Param) → sd.roots ≡ roots_of qs 0 1 2
    → IsFine (wanted_tests at r apply_wants qs) → IsFine (ways_tests s qs) → ApplyFacts s sd qs
apply_facts at r s sd outer none [] is w f = broken w
apply_facts at r s sd outer none (a ∷ []) is w f = broken w.1
apply_facts at r s sd outer none (a ∷ b ∷ []) is w f = broken w.1.1
apply_facts at r s sd outer none (a ∷ b ∷ c ∷ d ∷ rest) is w f = broken w.1.1.1.0
apply_facts at r s sd outer none (a ∷ b ∷ c ∷ []) is w f =
    (let apart = three_apart s a b c f.1.0.0 f.1.1.0.0 in
    let s1 = declare s a.name (value (way_access a.way) a.ty) in
    let s2 = declare s1 b.name (value (way_access b.way) b.ty) in
    record {
      apart = apart;
      reads = three_read s a b c sd outer is apart (reads_none (roots_of (a ∷ b ∷ c ∷ []) 0 1 2) s sd none);
      before = missing_first s a b c f.1.1.0.0;
      metadata = ap is_missing ((declare_keeps s2 c.name (value (way_access c.way) c.ty) f.1.1.0.0).kept b.name [] (stands_self s1 b)) ∙ stands_self s1 b;
      standard = stands_self s2 c;
    })

-- ---- parameters of verify checksum and compute checksum

pub record SumsFacts (s : Scope) (sd : meaning.Scope) (qs : List Param) : Type 0 where
  pub metadata : first_name sd (roots_of qs 0 1 2).metadata ≡ metadata_root
  pub reads : ReadsBy (roots_of qs 0 1 2) (with_ways s qs) sd

named : (x : List ℕ) → IsName x → same_text [] x ≡ false
named [] n = broken (sym n.0)
named (b ∷ bs) n = refl

sums_facts : (at : ℕ) (r : Structs) (s : Scope) (sd : meaning.Scope) → sd.inner ≡ None → ((x y : List ℕ) (ys : List (List ℕ)) → is_held (s (x ∷ y ∷ ys)) ≡ false) → (qs : List Param) → sd.roots ≡ roots_of qs 0 1 9 → EachCan (λ (q : Param). IsName q.name) qs
    → IsFine (wanted_tests at r checksum_wants qs) → IsFine (ways_tests s qs) → SumsFacts s sd qs
sums_facts at r s sd outer none [] is n w f = broken w
sums_facts at r s sd outer none (a ∷ []) is n w f = broken w.1
sums_facts at r s sd outer none (a ∷ b ∷ c ∷ rest) is n w f = broken w.1.1.0
sums_facts at r s sd outer none (a ∷ b ∷ []) is n w f =
    (let wm = was_missing s a.name (value (way_access a.way) a.ty) refl b.name (twice_not _ f.1.0.0) in
    let one : same_text a.name b.name ≡ false = other_text a.name b.name wm.apart in
    let roots : Roots = roots_of (a ∷ b ∷ []) 0 1 2 in
    let m : first_name sd b.name ≡ metadata_root = subst (λ (q : Roots). first_name sd q.metadata ≡ metadata_root) is (metadata_stands sd outer (ap (λ (q : Roots). same_text q.headers q.metadata) is ∙ one)) in
    let h : first_name sd a.name ≡ headers_root = subst (λ (q : Roots). first_name sd q.headers ≡ headers_root) is (headers_stand sd outer) in
    record {
      metadata = m;
      reads =
          reads_declared roots (declare s a.name (value (way_access a.way) a.ty)) sd b.name (value (way_access b.way) b.ty)
          (reads_declared roots s sd a.name (value (way_access a.way) a.ty) (reads_none roots s sd none) (headers_read roots sd a.name h (named a.name n.0)))
          (metadata_read roots sd b.name m (named b.name n.1.0));
    })

-- ---- parameters of the parser

pub record ParserFacts (s : Scope) (sd : meaning.Scope) (qs : List Param) : Type 0 where
  pub apart : AreApart (roots_of qs 1 2 3)
  pub reads : ReadsBy (roots_of qs 1 2 3) (with_ways s qs) sd

no_packet : (s : Scope) → Keeps core s → (a : _) (ty : _) → ty ≡ type.Named (codes "packet_in") → (y : List ℕ) (ys : List (List ℕ)) → is_held (behind s (value a ty) (y ∷ ys)) ≡ false
unfolding core
no_packet s k a ty e y ys = ap (λ (t : _). is_held (as_held a (type_at s t (y ∷ ys)))) e ∙ ap (λ (st : Stands). is_held (as_held a (as_typed st))) (k.kept (codes "packet_in") (y ∷ ys) refl) ∙ go ys
  where
    go : (ys : List (List ℕ)) → is_held (as_held a (as_typed (core (codes "packet_in" ∷ y ∷ ys)))) ≡ false
    go [] = refl
    go (z ∷ zs) = refl

parser_facts : (at : ℕ) (r : Structs) (s : Scope) (sd : meaning.Scope) → sd.inner ≡ None → Keeps core s → ((x y : List ℕ) (ys : List (List ℕ)) → is_held (s (x ∷ y ∷ ys)) ≡ false) → (qs : List Param) → sd.roots ≡ roots_of qs 1 2 3
    → IsFine (wanted_tests at r parser_wants qs) → IsFine (ways_tests s qs) → ParserFacts s sd qs
parser_facts at r s sd outer k none [] is w f = broken w
parser_facts at r s sd outer k none (p ∷ []) is w f = broken w.1
parser_facts at r s sd outer k none (p ∷ a ∷ []) is w f = broken w.1.1
parser_facts at r s sd outer k none (p ∷ a ∷ b ∷ []) is w f = broken w.1.1.1
parser_facts at r s sd outer k none (p ∷ a ∷ b ∷ c ∷ d ∷ rest) is w f = broken w.1.1.1.1.0
parser_facts at r s sd outer k none (p ∷ a ∷ b ∷ c ∷ []) is w f =
    (let s0 = declare s p.name (value (way_access p.way) p.ty) in
    let apart = three_apart s0 a b c f.1.1.0.0 f.1.1.1.0.0 in
    let roots : Roots = roots_of (p ∷ a ∷ b ∷ c ∷ []) 1 2 3 in
    record {
      apart = apart;
      reads = three_read s0 a b c sd outer is apart (reads_silent roots s sd p.name (value (way_access p.way) p.ty) (reads_none roots s sd none) (no_packet s k (way_access p.way) p.ty (core_wanted r Plain (codes "packet_in") p w.0)));
    })

-- ---- names of main

other_part : (main : List (List ℕ)) (x : List ℕ) → same_text (named_in main 2) x ≡ false → same_text (named_in main 3) x ≡ false → same_text (named_in main 5) x ≡ false → is_main_part (part_in main x) ≡ true → (part_in main x ≡ place.Verify) ⊎ (part_in main x ≡ place.Compute)
other_part (d ∷ v ∷ i ∷ e ∷ k ∷ m ∷ []) x a b c h = go (same_text v x) (same_text i x) (same_text e x) (same_text k x) (same_text m x) a b c h
  where
    go : (v i e k m : Bool) → i ≡ false → e ≡ false → m ≡ false → is_main_part (cond v place.Verify (cond i place.Apply (cond e place.Apply (cond k place.Compute (cond m place.Deparser place.Other))))) ≡ true
        → (cond v place.Verify (cond i place.Apply (cond e place.Apply (cond k place.Compute (cond m place.Deparser place.Other)))) ≡ place.Verify) ⊎ (cond v place.Verify (cond i place.Apply (cond e place.Apply (cond k place.Compute (cond m place.Deparser place.Other)))) ≡ place.Compute)
    go true i e k m a b c h = inl refl
    go false true e k m a b c h = broken a
    go false false true k m a b c h = broken b
    go false false false true m a b c h = inr refl
    go false false false false true a b c h = broken c
    go false false false false false a b c h = broken (sym h)
other_part _ x a b c h = broken (sym h)

pub ingress_name : (main : List (List ℕ)) (x : List ℕ) → place_in main x ≡ is_ingress → named_in main 2 ≡ x
ingress_name main x h = go (same_text (named_in main 2) x) (same_text (named_in main 3) x) (same_text (named_in main 5) x) refl h
  where
    go : (i e d : Bool) → same_text (named_in main 2) x ≡ i → cond i is_ingress (cond e is_egress (cond d is_deparser is_other)) ≡ is_ingress → named_in main 2 ≡ x
    go true e d a k = text_is (named_in main 2) x a
    go false true d a k = absurd (cc k)
    go false false true a k = absurd (cc k)
    go false false false a k = absurd (cc k)

pub egress_name : (main : List (List ℕ)) (x : List ℕ) → place_in main x ≡ is_egress → named_in main 3 ≡ x
egress_name main x h = go (same_text (named_in main 2) x) (same_text (named_in main 3) x) (same_text (named_in main 5) x) refl h
  where
    go : (i e d : Bool) → same_text (named_in main 3) x ≡ e → cond i is_ingress (cond e is_egress (cond d is_deparser is_other)) ≡ is_egress → named_in main 3 ≡ x
    go true e d a k = absurd (cc k)
    go false true d a k = text_is (named_in main 3) x a
    go false false true a k = absurd (cc k)
    go false false false a k = absurd (cc k)

params_named : (qs : List Param) → SomeCan CanSpellParam qs → EachCan (λ (q : Param). IsName q.name) qs
params_named [] n = tt
params_named (q ∷ qs) n = (n.0.1, each qs n.1)
  where
    each : (qs : List Param) → EachCan CanSpellParam qs → EachCan (λ (q : Param). IsName q.name) qs
    each [] n = tt
    each (q ∷ qs) n = (n.0.1, each qs n.1)

-- ---- structs

abbrev pub names_struct : Stands → Bool
names_struct st = is_struct (typed_thing (as_typed st))

pub core_no_struct : (x : List ℕ) → names_struct (core (x ∷ [])) ≡ false
unfolding core
core_no_struct x =
    go (same_text x (codes "standard_metadata_t")) (same_text x (codes "packet_in")) (same_text x (codes "packet_out")) (same_text x (codes "NoAction")) (same_text x (codes "mark_to_drop")) (same_text x (codes "digest"))
    (same_text x (codes "verify_checksum")) (same_text x (codes "update_checksum")) (same_text x (codes "HashAlgorithm"))
  where
    go :
        (a b c d e f g h i : Bool)
        → names_struct (cond a (typed false Standard) (cond b (typed false PacketIn) (cond c (typed false PacketOut) (cond d (act [] 0) (cond e (function MarkToDrop) (cond f (function Digest) (cond g (function VerifyChecksum) (cond h (function UpdateChecksum) (cond i other missing))))))))) ≡ false
    go true b c d e f g h i = refl
    go false true c d e f g h i = refl
    go false false true d e f g h i = refl
    go false false false true e f g h i = refl
    go false false false false true f g h i = refl
    go false false false false false true g h i = refl
    go false false false false false false true h i = refl
    go false false false false false false false true i = refl
    go false false false false false false false false true = refl
    go false false false false false false false false false = refl

scalar_no_struct : (t : Thing) → is_scalar t ≡ true → is_struct t ≡ false
scalar_no_struct (Scalar k) h = refl
scalar_no_struct _ h = broken (sym h)

not_struct : (s : Scope) (n : List ℕ) (w : What) (x : List ℕ) → names_struct (behind s w []) ≡ false → names_struct (s (x ∷ [])) ≡ false → names_struct (declare s n w (x ∷ [])) ≡ false
unfolding declare
not_struct s n w x h k = go (same_text n x)
  where
    go : (b : Bool) → names_struct (cond b (behind s w []) (s (x ∷ []))) ≡ false
    go true = h
    go false = k

other_struct : (s : Scope) (n : List ℕ) (w : What) (x : List ℕ) → same_text n x ≡ false → names_struct (s (x ∷ [])) ≡ false → names_struct (declare s n w (x ∷ [])) ≡ false
unfolding declare
other_struct s n w x e k = ap (λ (b : Bool). names_struct (cond b (behind s w []) (s (x ∷ [])))) e ∙ k

struct_there : (main : List (List ℕ)) (x : List ℕ) (ts : List Top) (s : Scope) → IsFine (tops_tests main s ts) → names_struct (after_tops s ts (x ∷ [])) ≡ true → names_struct (s (x ∷ [])) ≡ false → has_struct ts x ≡ true
struct_there main x [] s f h k = broken (sym h ∙ k)
struct_there main x (constant q u y e ∷ ts) s f h k = struct_there main x ts _ f.1 h (not_struct s y (value Constant u) x refl k)
struct_there main x (typedef q u y ∷ ts) s f h k = struct_there main x ts _ f.1 h (not_struct s y (alias u) x (scalar_no_struct (thing_in s u) (twice_not _ f.0.1.1)) k)
struct_there main x (header_type q y fs ∷ ts) s f h k = struct_there main x ts _ f.1 h (not_struct s y (fields (Header (fields_bits s fs)) fs) x refl k)
struct_there main x (register q d ∷ ts) s f h k = struct_there main x ts _ f.1 h (not_struct s d.name (scope.register d.ty) x refl k)
struct_there main x (parser q d ∷ ts) s f h k = struct_there main x ts _ f.1 h (not_struct s d.name part x refl k)
struct_there main x (control q c ∷ ts) s f h k = struct_there main x ts _ f.1 h (not_struct s c.name part x refl k)
struct_there main x (struct_type q y fs ∷ ts) s f h k = go (same_text y x) refl (λ e. struct_there main x ts (declare s y (fields Struct fs)) f.1 h (other_struct s y (fields Struct fs) x e k))
  where
    go : (b : Bool) → same_text y x ≡ b → (same_text y x ≡ false → has_struct ts x ≡ true) → (b || has_struct ts x) ≡ true
    go true e more = refl
    go false e more = more e

-- ---- what main names

record HaveNamed (ts : List Top) (main : List (List ℕ)) : Type 0 where
  parser : is_some (parser_named ts (named_in main 0)) ≡ true
  ingress : is_some (control_named ts (named_in main 2)) ≡ true
  egress : is_some (control_named ts (named_in main 3)) ≡ true
  deparser : is_some (control_named ts (named_in main 5)) ≡ true
  apart : same_text (named_in main 2) (named_in main 3) ≡ false

all_three : (a b c : Bool) → (a && b && not c) ≡ true → (a ≡ true) × (b ≡ true) × (c ≡ false)
all_three true true false h = (refl, refl, refl)
all_three _ _ _ h = broken (sym h)

have_named : (ts : List Top) (main : List (List ℕ)) → names_parts ts main ≡ true → HaveNamed ts main
have_named ts (d ∷ v ∷ i ∷ e ∷ k ∷ m ∷ []) h =
    (let a = all_three (is_some (parser_named ts d)) (has_controls ts (v ∷ i ∷ e ∷ k ∷ m ∷ [])) (has_twice (v ∷ i ∷ e ∷ k ∷ m ∷ [])) h in
    let cv = both_hold (is_some (control_named ts v)) (has_controls ts (i ∷ e ∷ k ∷ m ∷ [])) a.1 in
    let ci = both_hold (is_some (control_named ts i)) (has_controls ts (e ∷ k ∷ m ∷ [])) cv.1 in
    let ce = both_hold (is_some (control_named ts e)) (has_controls ts (k ∷ m ∷ [])) ci.1 in
    let ck = both_hold (is_some (control_named ts k)) (has_controls ts (m ∷ [])) ce.1 in
    let cm = both_hold (is_some (control_named ts m)) true ck.1 in
    let tv = neither (cycles.is_among (i ∷ e ∷ k ∷ m ∷ []) v) (has_twice (i ∷ e ∷ k ∷ m ∷ [])) a.2 in
    let ti = neither (cycles.is_among (e ∷ k ∷ m ∷ []) i) (has_twice (e ∷ k ∷ m ∷ [])) tv.1 in
    let tie = neither (same_text e i) (cycles.is_among (k ∷ m ∷ []) i) ti.0 in
    record { parser = a.0; ingress = ci.0; egress = ce.0; deparser = cm.0; apart = turned e i tie.0 })
have_named ts _ h = broken (sym h)

record Found {A : Type 0} (o : Option A) : Type 0 where
  value : A
  is : o ≡ Some value

found : {A : Type 0} (o : Option A) → is_some o ≡ true → Found o
found None h = broken (sym h)
found (Some a) h = record { value = a; is = refl }

-- ---- along the declarations

-- what the architecture declares stands for the same everywhere
core_kept : (t : Scope) → Keeps core t → KeepsCore t
unfolding core
core_kept t k = record { kept = λ x some. k.kept x [] some }

module _ (p : Program) (well : IsWellTyped p) where
  pub record Here (ts : List Top) (s : Scope) (sc : meaning.Scope) : Type 0 where
    pub at : IsAt p well ts s sc
    pub sums : NoSum s
    pub known : AreKnown s sc.constants

  top_sum : (s : Scope) (t : Top) → NoSum s → NoSum (after_top s t)
  top_sum s (constant q u x e) h = sum_declared s x _ h
  top_sum s (typedef q u x) h = sum_declared s x _ h
  top_sum s (header_type q x fs) h = sum_declared s x _ h
  top_sum s (struct_type q x fs) h = sum_declared s x _ h
  top_sum s (register q d) h = sum_declared s d.name _ h
  top_sum s (parser q d) h = sum_declared s d.name _ h
  top_sum s (control q c) h = sum_declared s c.name _ h

  top_known : (s : Scope) (sc : meaning.Scope) (t : Top) → IsFine (top_tests p.main s t) → AreKnown s sc.constants → AreKnown (after_top s t) (behind_top sc t).constants
  top_known s sc (constant q u x e) f h = (ap is_missing (self_stands s x (value Constant u)), known_kept s (declare s x (value Constant u)) (after_top_keeps p.main s (constant q u x e) f) sc.constants h)
  top_known s sc (typedef q u x) f h = known_kept s _ (after_top_keeps p.main s (typedef q u x) f) sc.constants h
  top_known s sc (header_type q x fs) f h = known_kept s _ (after_top_keeps p.main s (header_type q x fs) f) sc.constants h
  top_known s sc (struct_type q x fs) f h = known_kept s _ (after_top_keeps p.main s (struct_type q x fs) f) sc.constants h
  top_known s sc (register q d) f h = known_kept s _ (after_top_keeps p.main s (register q d) f) sc.constants h
  top_known s sc (parser q d) f h = known_kept s _ (after_top_keeps p.main s (parser q d) f) sc.constants h
  top_known s sc (control q c) f h = known_kept s _ (after_top_keeps p.main s (control q c) f) sc.constants h

  pub next_here : (t : Top) (ts : List Top) (s : Scope) (sc : meaning.Scope) → Here (t ∷ ts) s sc → IsFine (tops_tests p.main s (t ∷ ts)) → Here ts (after_top s t) (behind_top sc t)
  next_here t ts s sc b f = record { at = of.next_at p well t ts s sc b.at f; sums = top_sum s t b.sums; known = top_known s sc t f.0 b.known }

  -- ---- controls

  module _ (q : ℕ) (c : Control) (ts : List Top) (s : Scope) (sc : meaning.Scope) (b : Here (control q c ∷ ts) s sc) (f : IsFine (tops_tests p.main s (control q c ∷ ts))) where
    abbrev r : Roots
    r = control_roots c

    unheld : (x y : List ℕ) (ys : List (List ℕ)) → is_held (s (x ∷ y ∷ ys)) ≡ false
    unheld = b.at.types.unheld

    ready_apply : part_in p.main c.name ≡ place.Apply → ReadyApply sc c
    ready_apply is =
        (let sd = under.in_control 0 1 2 sc c in
        let g : IsFine (control_tests place.Apply s c) = of.fine p well q c ts s sc b.at f place.Apply is in
        let facts = apply_facts p.at (structs_of (program_scope p) p) s sd b.at.outer unheld c.params refl (of.wanted p well q c ts s sc b.at f place.Apply is) g.1.0 in
        let spot : Spot r (with_ways s c.params) sd = record { place = of.apply_place p well q c ts s sc b.at f is; reads = facts.reads; sums = sums_ways c.params s b.sums } in
        let stand = roots_stand sd b.at.outer facts.apart in
        let kept = core_kept (with_ways s c.params) (keeps_trans core s (with_ways s c.params) b.at.types.keeps (with_ways_keeps s c.params g.1.0)) in
        let new : IsNew (own_names c.locals) = own_new (own_names c.locals) (with_ways s c.params) kept (own_missing place.Apply c.locals (with_ways s c.params) g.1.1.0) in
        record {
          roots = stand;
          standard = locals_none place.Apply r.standard c.locals (with_ways s c.params) sd facts.standard (no_constant s r.standard facts.before sc.constants b.known) g.1.1.0;
          mark_to_drop = new.apart (codes "mark_to_drop") refl;
          digest = new.apart (codes "digest") refl;
          no_action = new.apart (codes "NoAction") refl;
          locals = locals_read r place.Apply c.locals (with_ways s c.params) sd b.at.outer facts.metadata stand.metadata spot g.1.1.0;
          apply = block_reads r place.Apply (in_control s c) (behind_locals sd c.locals) (spot_locals r place.Apply c.locals (with_ways s c.params) sd spot g.1.1.0) c.apply g.1.1.1.0;
        })

    ready_sums : (h : Part) → part_in p.main c.name ≡ h → wants_of h ≡ checksum_wants → has_calls_alone h ≡ true → EachCan (λ (q : Param). IsName q.name) c.params → ReadySums sc c
    ready_sums h is w alone names =
        (let sd = under.in_control 0 1 9 sc c in
        let g : IsFine (control_tests h s c) = of.fine p well q c ts s sc b.at f h is in
        let facts = sums_facts p.at (structs_of (program_scope p) p) s sd b.at.outer unheld c.params refl names (subst (λ (ws : List Wanted). IsFine (wanted_tests p.at (structs_of (program_scope p) p) ws c.params)) w (of.wanted p well q c ts s sc b.at f h is)) g.1.0 in
        let spot : Spot r (with_ways s c.params) sd = record { place = of.sums_place p well q c ts s sc b.at f h is w; reads = facts.reads; sums = sums_ways c.params s b.sums } in
        let none = no_locals h alone c.locals (with_ways s c.params) g.1.1.0 in
        record {
          locals = none;
          metadata = facts.metadata;
          apply = subst (λ (ls : List Local). StmtsReadIn (behind_locals sd ls) r c.apply) none (block_reads r h (in_control s c) (behind_locals sd c.locals) (spot_locals r h c.locals (with_ways s c.params) sd spot g.1.1.0) c.apply g.1.1.1.0);
        })

    ready_deparser : part_in p.main c.name ≡ place.Deparser → c.locals ≡ []
    ready_deparser is =
        (let g : IsFine (control_tests place.Deparser s c) = of.fine p well q c ts s sc b.at f place.Deparser is in
        no_locals place.Deparser refl c.locals (with_ways s c.params) g.1.1.0)

  -- ---- the parser

  ready_parser : (q : ℕ) (d : Parser) (ts : List Top) (s : Scope) (sc : meaning.Scope) → Here (parser q d ∷ ts) s sc → IsFine (tops_tests p.main s (parser q d ∷ ts)) → ReadyParser sc d
  ready_parser q d ts s sc b f =
      (let sd = in_parser sc d in
      let r = parser_roots d in
      let g : IsFine (parser_tests s d) = f.0 in
      let R = structs_of (program_scope p) p in
      let wanted = parts_in_role.parser_params p well q d (b.at.within (parser q d) (inl refl)) in
      let facts = parser_facts p.at R s sd b.at.outer b.at.types.keeps b.at.types.unheld d.params refl wanted g.1.0 in
      let before : (n m : List ℕ) → Holds R.headers_type R.metadata_type n m s = λ n m. holds_before R.headers_type R.metadata_type n m s (program_scope p) b.at.types (of.goes_on p well (parser q d ∷ ts) s sc b.at f) (of.headers_struct p well) (of.metadata_struct p well) in
      let spot : Spot r (with_ways s d.params) sd = record { place = parser_holds R p.at s before sd b.at.outer d.params refl wanted g.1.0; reads = facts.reads; sums = sums_ways d.params s b.sums } in
      record { roots = roots_stand sd b.at.outer facts.apart; states = states_read r d.states (in_states s d) sd (spot_states r d.states (before_states s d) sd (spot_ends r (with_ways s d.params) sd spot)) d.states g.1.1.1.1 })

  -- ---- which part stands where

  module _ (parts : HaveParts p.main) where
    -- a control's place in `main`, by its part
    abbrev pub IsAtPlace : Place → Part → Type 0
    IsAtPlace is_ingress h = h ≡ place.Apply
    IsAtPlace is_egress h = h ≡ place.Apply
    IsAtPlace is_deparser h = h ≡ place.Deparser
    IsAtPlace is_other h = (h ≡ place.Verify) ⊎ (h ≡ place.Compute)

    pub place_part : (x : List ℕ) → is_main_part (part_in p.main x) ≡ true → IsAtPlace (place_in p.main x) (part_in p.main x)
    place_part x m = go (same_text (named_in p.main 2) x) (same_text (named_in p.main 3) x) (same_text (named_in p.main 5) x) refl refl refl
      where
        go : (i e d : Bool) → same_text (named_in p.main 2) x ≡ i → same_text (named_in p.main 3) x ≡ e → same_text (named_in p.main 5) x ≡ d → IsAtPlace (cond i is_ingress (cond e is_egress (cond d is_deparser is_other))) (part_in p.main x)
        go true e d a b c = ap (part_in p.main) (sym (text_is (named_in p.main 2) x a)) ∙ parts.ingress
        go false true d a b c = ap (part_in p.main) (sym (text_is (named_in p.main 3) x b)) ∙ parts.egress
        go false false true a b c = ap (part_in p.main) (sym (text_is (named_in p.main 5) x c)) ∙ parts.deparser
        go false false false a b c = other_part p.main x a b c m

    ready_control : (q : ℕ) (c : Control) (ts : List Top) (s : Scope) (sc : meaning.Scope) → Here (control q c ∷ ts) s sc → IsFine (tops_tests p.main s (control q c ∷ ts)) → EachCan (λ (q : Param). IsName q.name) c.params → ReadyControl (place_in p.main c.name) sc c
    ready_control q c ts s sc b f names = go (place_in p.main c.name) (place_part c.name (parts_in_role.controls p well q c (b.at.within (control q c) (inl refl))))
      where
        go : (k : Place) → IsAtPlace k (part_in p.main c.name) → ReadyControl k sc c
        go is_ingress h = ready_apply q c ts s sc b f h
        go is_egress h = ready_apply q c ts s sc b f h
        go is_deparser h = ready_deparser q c ts s sc b f h
        go is_other (inl h) = ready_sums q c ts s sc b f place.Verify h refl refl names
        go is_other (inr h) = ready_sums q c ts s sc b f place.Compute h refl refl names

    ready_tops : (ts : List Top) (s : Scope) (sc : meaning.Scope) → Here ts s sc → IsFine (tops_tests p.main s ts) → EachCan CanSpellTop ts → AreReady p.main sc ts
    ready_tops [] s sc b f n = tt
    ready_tops (constant q u x e ∷ ts) s sc b f n = ready_tops ts _ _ (next_here (constant q u x e) ts s sc b f) f.1 n.1
    ready_tops (typedef q u x ∷ ts) s sc b f n = ready_tops ts _ _ (next_here (typedef q u x) ts s sc b f) f.1 n.1
    ready_tops (header_type q x fs ∷ ts) s sc b f n = ready_tops ts _ _ (next_here (header_type q x fs) ts s sc b f) f.1 n.1
    ready_tops (struct_type q x fs ∷ ts) s sc b f n = ready_tops ts _ _ (next_here (struct_type q x fs) ts s sc b f) f.1 n.1
    ready_tops (register q d ∷ ts) s sc b f n = ready_tops ts _ _ (next_here (register q d) ts s sc b f) f.1 n.1
    ready_tops (parser q d ∷ ts) s sc b f n = (ready_parser q d ts s sc b f, ready_tops ts _ _ (next_here (parser q d) ts s sc b f) f.1 n.1)
    ready_tops (control q c ∷ ts) s sc b f n = (ready_control q c ts s sc b f (params_named c.params n.0.1), ready_tops ts _ _ (next_here (control q c) ts s sc b f) f.1 n.1)

    -- ---- the two controls

    ones : (i e : Control) → control_in p 2 ≡ Some i → control_in p 3 ≡ Some e → (ts : List Top) → ((y : Top) → In y ts → In y p.tops) → AreTheOnes p.main i e ts
    ones i e a b [] within = tt
    ones i e a b (constant q u x v ∷ ts) within = ones i e a b ts (λ y k. within y (inr k))
    ones i e a b (typedef q u x ∷ ts) within = ones i e a b ts (λ y k. within y (inr k))
    ones i e a b (header_type q x fs ∷ ts) within = ones i e a b ts (λ y k. within y (inr k))
    ones i e a b (struct_type q x fs ∷ ts) within = ones i e a b ts (λ y k. within y (inr k))
    ones i e a b (register q d ∷ ts) within = ones i e a b ts (λ y k. within y (inr k))
    ones i e a b (parser q d ∷ ts) within = ones i e a b ts (λ y k. within y (inr k))
    ones i e a b (control q c ∷ ts) within = (at_two, at_three, ones i e a b ts (λ y k. within y (inr k)))
      where
        found : control_named p.tops c.name ≡ Some c
        found = parts_in_role.control_of_name p well q c (within (control q c) (inl refl))

        at_two : place_in p.main c.name ≡ is_ingress → i ≡ c
        at_two h = (let same : Some i ≡ Some c = sym a ∙ ap (control_named p.tops) (ingress_name p.main c.name h) ∙ found in cc)

        at_three : place_in p.main c.name ≡ is_egress → e ≡ c
        at_three h = (let same : Some e ≡ Some c = sym b ∙ ap (control_named p.tops) (egress_name p.main c.name h) ∙ found in cc)

    -- ---- the places of main

    two_is : place_in p.main (named_in p.main 2) ≡ is_ingress
    two_is = ap (λ (b : Bool). cond b is_ingress (cond (same_text (named_in p.main 3) (named_in p.main 2)) is_egress (cond (same_text (named_in p.main 5) (named_in p.main 2)) is_deparser is_other))) (text_same (named_in p.main 2) (named_in p.main 2) refl)

    three_is : same_text (named_in p.main 2) (named_in p.main 3) ≡ false → place_in p.main (named_in p.main 3) ≡ is_egress
    three_is a = ap₂ (λ (b c : Bool). cond b is_ingress (cond c is_egress (cond (same_text (named_in p.main 5) (named_in p.main 3)) is_deparser is_other))) a (text_same (named_in p.main 3) (named_in p.main 3) refl)

    -- a control of another part is in neither of the two
    not_two : (x : List ℕ) → (part_in p.main x ≡ place.Apply → ⊥) → same_text (named_in p.main 2) x ≡ false
    not_two x h = go (same_text (named_in p.main 2) x) refl
      where
        go : (b : Bool) → same_text (named_in p.main 2) x ≡ b → b ≡ false
        go true e = absurd (h (ap (part_in p.main) (sym (text_is (named_in p.main 2) x e)) ∙ parts.ingress))
        go false e = refl

    not_three : (x : List ℕ) → (part_in p.main x ≡ place.Apply → ⊥) → same_text (named_in p.main 3) x ≡ false
    not_three x h = go (same_text (named_in p.main 3) x) refl
      where
        go : (b : Bool) → same_text (named_in p.main 3) x ≡ b → b ≡ false
        go true e = absurd (h (ap (part_in p.main) (sym (text_is (named_in p.main 3) x e)) ∙ parts.egress))
        go false e = refl

    not_five : (x : List ℕ) → (part_in p.main x ≡ place.Deparser → ⊥) → same_text (named_in p.main 5) x ≡ false
    not_five x h = go (same_text (named_in p.main 5) x) refl
      where
        go : (b : Bool) → same_text (named_in p.main 5) x ≡ b → b ≡ false
        go true e = absurd (h (ap (part_in p.main) (sym (text_is (named_in p.main 5) x e)) ∙ parts.deparser))
        go false e = refl

    five_is : place_in p.main (named_in p.main 5) ≡ is_deparser
    five_is =
        λ j.
        cond (not_two (named_in p.main 5) (λ e. (let c : place.Deparser ≡ place.Apply = sym parts.deparser ∙ e in absurd (cc c))) j) is_ingress
        (cond (not_three (named_in p.main 5) (λ e. (let c : place.Deparser ≡ place.Apply = sym parts.deparser ∙ e in absurd (cc c))) j) is_egress
        (cond (text_same (named_in p.main 5) (named_in p.main 5) refl j) is_deparser is_other))

    other_is : (x : List ℕ) (h : Part) → part_in p.main x ≡ h → (h ≡ place.Apply → ⊥) → (h ≡ place.Deparser → ⊥) → place_in p.main x ≡ is_other
    other_is x h is a b =
        λ j.
        cond (not_two x (λ e. a (sym is ∙ e)) j) is_ingress (cond (not_three x (λ e. a (sym is ∙ e)) j) is_egress (cond (not_five x (λ e. b (sym is ∙ e)) j) is_deparser is_other))

-- ---- the whole

ready : (p : Program) (well : IsWellTyped p) → HasOwnNames p → CanSpell p → same_text (headers_type p) (metadata_type p) ≡ false → Linkable p
ready p well names spelled two =
    (let parts = have_parts p.tops p.main (parts_named p well) in
    let have = have_named p.tops p.main (parts_named p well) in
    let fine = (typed_fine p well).0 in
    let first : IsAt p well p.tops core no_scope = of.first_at p well in
    let here : Here p well p.tops core no_scope = record { at = first; sums = core_sum; known = tt } in
    let i = found (control_in p 2) have.ingress in
    let e = found (control_in p 3) have.egress in
    let k = found (control_in p 5) have.deparser in
    let d = found (parser_in p) have.parser in
    let all : (x : List ℕ) → names_struct (after_tops core p.tops (x ∷ [])) ≡ is_struct (thing_in (program_scope p) (type.Named x)) = λ x. ap (λ (s : Scope). names_struct (s (x ∷ []))) first.all in
    record {
      ingress = i.value;
      egress = e.value;
      parser = d.value;
      deparser = k.value;
      ready =
          record {
            names = names;
            tops = ready_tops p well parts p.tops core no_scope here fine spelled.tops;
            ones = ones p well parts i.value e.value i.is e.is p.tops (λ y j. j);
            parser = d.is;
            ingress = i.is;
            egress = e.is;
            deparser = k.is;
            at_verify = other_is p well parts (named_in p.main 1) place.Verify parts.verify (λ q. absurd (cc q)) (λ q. absurd (cc q));
            at_ingress = two_is p well parts;
            at_egress = three_is p well parts have.apart;
            at_compute = other_is p well parts (named_in p.main 4) place.Compute parts.compute (λ q. absurd (cc q)) (λ q. absurd (cc q));
            at_deparser = five_is p well parts;
            headers = struct_there p.main (headers_type p) p.tops core fine (all (headers_type p) ∙ of.headers_struct p well) (core_no_struct (headers_type p));
            metadata = struct_there p.main (metadata_type p) p.tops core fine (all (metadata_type p) ∙ of.metadata_struct p well) (core_no_struct (metadata_type p));
            two = two;
          };
    })

pub well_typed_is_linkable : WellTypedIsLinkable
well_typed_is_linkable p g = ready p g.typed g.names g.spelled g.two

pub linked_has_parts : (T Z C : Type 0) → LinkedHasParts T Z C
linked_has_parts T Z C l m h p g k gives s links = parts_are_linked T Z C l m h p k.ingress k.egress k.parser k.deparser k.ready gives s links

pub linked_is_host : (T Z C : Type 0) (FitView : List Word → Type 0) → LinkedIsHost T Z C FitView
linked_is_host T Z C FitView l m h p g k gives forwards views net wired =
    record {
      host = record { forwarding = forwards; fields = fields_sound p g.typed; views = views; network = wired; joins = λ s. (linked_has_parts T Z C l m h p g k gives 0 []).joins };
      programs = λ s. (linked_has_parts T Z C l m h p g k gives s (ports_at net.links s)).parts;
    }
