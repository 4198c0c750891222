-- Each part of a well-typed program begins in a store that fits, and along whole passages what is in sight is seen.
use Rattle.std.proofs.Common.{◌≡◌, ℕ, List, [], ◌∷◌, Bool, true, false, cond, not, ◌&&◌, is_some, Option, Some, refl, sym, ap, ◌∙◌, subst}
use Rattle.lex_text.specs.Names.{same_text}
use Rattle.rule_tests.specs.Tests.{IsFine}
use Rattle.p4_tree.specs.Tree.{Control, Parser, Top, Program}
use Rattle.p4_parser_states.specs.Cycles.{is_among}
use Rattle.p4_meaning.specs.Store.{Store}
use Rattle.p4_meaning.specs.Parsing.{Reading}
use Rattle.p4_meaning.specs.Under as under
use Rattle.p4_meaning.specs.Under.{no_scope, in_parser}
use Rattle.p4_meaning.specs.Parts.{Parts, parser_named, control_named, named_in, parser_in, control_in, parts_of}
use Rattle.p4_meaning.proofs.ScopeWords.{behind_all_tops, behind_all_locals}
use Rattle.p4_meaning.specs.Under.{behind_tops}
use Rattle.p4_scopes.specs.Scopes.{Scope, core}
use Rattle.p4_statement_rules.specs.declared.rule.Part.{Part}
use Rattle.p4_statement_rules.specs.declared.rule.Part.TheVariants as place
use Rattle.p4_declaration_rules.specs.Declarations.{has_twice}
use Rattle.p4_declaration_rules.specs.Parsers.{with_ways, in_states, with_ends}
use Rattle.p4_declaration_rules.specs.Controls.{part_in, after_tops, control_tests}
use Rattle.p4_declaration_rules.proofs.FirstsLemmas.{all_first}
use Rattle.p4_rules.specs.Mains.{names_parts, has_controls, Structs, structs_of, parser_wants, checksum_wants, apply_wants, deparser_wants, wanted_tests, parser_params, control_params, parts_params, main_tests}
use Rattle.p4_rules.specs.ProgramRules.{IsWellTyped}
use Rattle.p4_typing_laws.specs.Plain.{HavePlainNames, HavePlainValues}
use Rattle.p4_typing_laws.specs.Stores.{Fits}
use Rattle.p4_typing_laws.proofs.Fine.{neither, typed_fine}
use Rattle.p4_typing_laws.proofs.FineUses.{parts_named}
use Rattle.p4_typing_laws.proofs.CallCounts.{text_same}
use Rattle.p4_typing_laws.proofs.FullNames.{other_text}
use Rattle.p4_typing_laws.proofs.SoundScopes.{ends_sound, states_sound}
use Rattle.p4_typing_laws.proofs.SoundPlaces.{ways_sound}
use Rattle.p4_typing_laws.proofs.RunWidths.{each_words}
use Rattle.passage_stores.specs.FitStores.{IsFit, IsFitReading}
use Rattle.passage_stores.specs.PassageStores.{reading_before, verify_run, ingress_run, egress_run, compute_run}
use Rattle.passage_stores.specs.Sights.{parser_rules, parser_scope, control_rules, control_scope}
use Rattle.passage_stores.specs.SeenStores.{Sees}
use Rattle.passage_stores.specs.SeenPassages.{PartsBegin, EachPartBegins, PassageSees, EachPassageSees}
use Rattle.passage_stores.proofs.DeclaredTypes.{broken}
use Rattle.passage_stores.proofs.KeptStores.{HavePaths, fit_standard}
use Rattle.passage_stores.proofs.PassageFits.{paths, passage_stores_fit}
use Rattle.passage_stores.proofs.SightFits.{and_parts}
use Rattle.passage_stores.proofs.SeenNames.{ways_names, ends_names, states_names, outside_owns}
use Rattle.passage_stores.proofs.Fronts.{AreFront, AtControl, AtParser, at_control, at_parser, first_front}
use Rattle.passage_stores.proofs.BegunSights.{IsEnd, the_end, apply_begins, checksum_begins, parser_begins}
use Rattle.passage_stores.proofs.SeenParsers.{parse_along}
use Rattle.passage_stores.proofs.SeenBlocks.{IsKnown, seen_of}
use Rattle.passage_stores.proofs.SeenControls.{apply_sees}
use Rattle.passage_stores.proofs.SeenChecksums.{checksum_sees}

-- ---- what main names

not_true : (b : Bool) → not b ≡ true → b ≡ false
not_true true h = broken (sym h)
not_true false h = refl

-- the parts of the controls by their places, and what is wanted of their parameters
pub record AreParts (ts : List Top) (R : Structs) (at : ℕ) (main : List (List ℕ)) : Type 0 where
  pub verify : part_in main (named_in main 1) ≡ place.Verify
  pub ingress : part_in main (named_in main 2) ≡ place.Apply
  pub egress : part_in main (named_in main 3) ≡ place.Apply
  pub compute : part_in main (named_in main 4) ≡ place.Compute
  pub deparser : part_in main (named_in main 5) ≡ place.Deparser
  pub parser_wanted : IsFine (parser_params at R (parser_named ts (named_in main 0)))
  pub verify_wanted : IsFine (control_params at R checksum_wants (control_named ts (named_in main 1)))
  pub ingress_wanted : IsFine (control_params at R apply_wants (control_named ts (named_in main 2)))
  pub egress_wanted : IsFine (control_params at R apply_wants (control_named ts (named_in main 3)))
  pub compute_wanted : IsFine (control_params at R checksum_wants (control_named ts (named_in main 4)))
  pub deparser_wanted : IsFine (control_params at R deparser_wants (control_named ts (named_in main 5)))

no_parts : (ts : List Top) (R : Structs) (at : ℕ) (main : List (List ℕ)) → false ≡ true → AreParts ts R at main
no_parts ts R at main h = broken (sym h)

-- a name that is not among others
apart_first : (x y : List ℕ) (ys : List (List ℕ)) → is_among (y ∷ ys) x ≡ false → (same_text x y ≡ false) × (is_among ys x ≡ false)
apart_first x y ys h = (let k = neither (same_text y x) (is_among ys x) h in (other_text x y (λ e. (let c : true ≡ false = sym (text_same y x (sym e)) ∙ k.0 in cc)), k.1))

-- the part of a name, by whether it is the one at each place
abbrev Chosen : (a b c g j : Bool) → Part
Chosen a b c g j = cond a place.Verify (cond b place.Apply (cond c place.Apply (cond g place.Compute (cond j place.Deparser place.Other))))

pub parts_are : (ts : List Top) (R : Structs) (at : ℕ) (main : List (List ℕ)) → names_parts ts main ≡ true → IsFine (parts_params at R ts main) → AreParts ts R at main
parts_are ts R at [] h f = no_parts ts R at [] h
parts_are ts R at (d ∷ []) h f = no_parts ts R at (d ∷ []) h
parts_are ts R at (d ∷ v ∷ []) h f = no_parts ts R at (d ∷ v ∷ []) h
parts_are ts R at (d ∷ v ∷ i ∷ []) h f = no_parts ts R at (d ∷ v ∷ i ∷ []) h
parts_are ts R at (d ∷ v ∷ i ∷ e ∷ []) h f = no_parts ts R at (d ∷ v ∷ i ∷ e ∷ []) h
parts_are ts R at (d ∷ v ∷ i ∷ e ∷ k ∷ []) h f = no_parts ts R at (d ∷ v ∷ i ∷ e ∷ k ∷ []) h
parts_are ts R at (d ∷ v ∷ i ∷ e ∷ k ∷ m ∷ n ∷ rest) h f = no_parts ts R at (d ∷ v ∷ i ∷ e ∷ k ∷ m ∷ n ∷ rest) h
parts_are ts R at (d ∷ v ∷ i ∷ e ∷ k ∷ m ∷ []) h f =
    let once = not_true (has_twice (v ∷ i ∷ e ∷ k ∷ m ∷ [])) (and_parts (is_some (parser_named ts d) && has_controls ts (v ∷ i ∷ e ∷ k ∷ m ∷ [])) (not (has_twice (v ∷ i ∷ e ∷ k ∷ m ∷ []))) h).1 in
    let a = neither (is_among (i ∷ e ∷ k ∷ m ∷ []) v) (has_twice (i ∷ e ∷ k ∷ m ∷ [])) once in
    let b = neither (is_among (e ∷ k ∷ m ∷ []) i) (has_twice (e ∷ k ∷ m ∷ [])) a.1 in
    let c = neither (is_among (k ∷ m ∷ []) e) (has_twice (k ∷ m ∷ [])) b.1 in
    let vi = apart_first v i (e ∷ k ∷ m ∷ []) a.0 in
    let ve = apart_first v e (k ∷ m ∷ []) vi.1 in
    let vk = apart_first v k (m ∷ []) ve.1 in
    let ie = apart_first i e (k ∷ m ∷ []) b.0 in
    let ik = apart_first i k (m ∷ []) ie.1 in
    let ek = apart_first e k (m ∷ []) c.0 in
    let vm = apart_first v m [] vk.1 in
    let im = apart_first i m [] ik.1 in
    let em = apart_first e m [] ek.1 in
    let km = apart_first k m [] (neither (is_among (m ∷ []) k) (has_twice (m ∷ [])) c.1).0 in
    record {
      verify = chosen (same_text v v) (same_text i v) (same_text e v) (same_text k v) (same_text m v) (text_same v v refl);
      ingress = second (same_text v i) (same_text i i) (same_text e i) (same_text k i) (same_text m i) vi.0 (text_same i i refl);
      egress = third (same_text v e) (same_text i e) (same_text e e) (same_text k e) (same_text m e) ve.0 ie.0 (text_same e e refl);
      compute = fourth (same_text v k) (same_text i k) (same_text e k) (same_text k k) (same_text m k) vk.0 ik.0 ek.0 (text_same k k refl);
      deparser = fifth (same_text v m) (same_text i m) (same_text e m) (same_text k m) (same_text m m) vm.0 im.0 em.0 km.0 (text_same m m refl);
      parser_wanted = f.0;
      verify_wanted = f.1.0;
      ingress_wanted = f.1.1.0;
      egress_wanted = f.1.1.1.0;
      compute_wanted = f.1.1.1.1.0;
      deparser_wanted = f.1.1.1.1.1;
    }
  where
    chosen : (a b c g j : Bool) → a ≡ true → Chosen a b c g j ≡ place.Verify
    chosen true b c g j q = refl
    chosen false b c g j q = broken (sym q)

    second : (a b c g j : Bool) → a ≡ false → b ≡ true → Chosen a b c g j ≡ place.Apply
    second true b c g j q r = broken q
    second false true c g j q r = refl
    second false false c g j q r = broken (sym r)

    third : (a b c g j : Bool) → a ≡ false → b ≡ false → c ≡ true → Chosen a b c g j ≡ place.Apply
    third true b c g j q r s = broken q
    third false true c g j q r s = refl
    third false false true g j q r s = refl
    third false false false g j q r s = broken (sym s)

    fourth : (a b c g j : Bool) → a ≡ false → b ≡ false → c ≡ false → g ≡ true → Chosen a b c g j ≡ place.Compute
    fourth true b c g j q r s t = broken q
    fourth false true c g j q r s t = broken r
    fourth false false true g j q r s t = broken s
    fourth false false false true j q r s t = refl
    fourth false false false false j q r s t = broken (sym t)

    fifth : (a b c g j : Bool) → a ≡ false → b ≡ false → c ≡ false → g ≡ false → j ≡ true → Chosen a b c g j ≡ place.Deparser
    fifth true b c g j q r s t u = broken q
    fifth false true c g j q r s t u = broken r
    fifth false false true g j q r s t u = broken s
    fifth false false false true j q r s t u = broken t
    fifth false false false false true q r s t u = refl
    fifth false false false false false q r s t u = broken (sym u)

-- ---- a program

module _ (p : Program) (well : IsWellTyped p) (names : HavePlainNames p.tops) (values : HavePlainValues p.tops) where
  abbrev pub Of : Parts
  Of = parts_of p

  -- behind all declarations
  abbrev pub Last : Scope
  Last = after_tops core p.tops

  last : IsEnd p Last
  last = the_end p well names values

  front : AreFront Of p.main Last p.tops core no_scope
  front = first_front p well names values (each_words (λ sc h ts ls. behind_all_locals (behind_tops sc ts) ls (behind_all_tops sc ts h)) p)

  pub parts : AreParts p.tops (structs_of Last p) p.at p.main
  parts =
      parts_are p.tops (structs_of Last p) p.at p.main (parts_named p well)
      (subst (λ (s : Scope). IsFine (main_tests s p)) (all_first p.main core p.tops (typed_fine p well).0) (typed_fine p well).1.0).1.1

  there : HavePaths Of.headers
  there = paths p well

  pub here : (n : ℕ) (c : Control) → control_in p n ≡ Some c → AtControl Of p.main Last (control_rules p n) (control_scope p n) c × (c.name ≡ named_in p.main n)
  here n c e = at_control Of p.main Last p.tops core no_scope front (named_in p.main n) c e

  at_parser_here : (d : Parser) → parser_in p ≡ Some d → AtParser Of p.main Last (parser_rules p) (parser_scope p) d
  at_parser_here d e = at_parser Of p.main Last p.tops core no_scope front (named_in p.main 0) d e

  pub part_of : (n : ℕ) (c : Control) → c.name ≡ named_in p.main n → (h : Part) → part_in p.main (named_in p.main n) ≡ h → part_in p.main c.name ≡ h
  part_of n c e h i = ap (part_in p.main) e ∙ i

  parser_wants_here : (d : Parser) → parser_in p ≡ Some d → IsFine (wanted_tests p.at (structs_of Last p) parser_wants d.params)
  parser_wants_here d e = subst (λ (o : Option Parser). IsFine (parser_params p.at (structs_of Last p) o)) e parts.parser_wanted

  checksum_wanted : (o : Option Control) (c : Control) → o ≡ Some c → IsFine (control_params p.at (structs_of Last p) checksum_wants o) → IsFine (wanted_tests p.at (structs_of Last p) checksum_wants c.params)
  checksum_wanted o c e f = subst (λ (q : Option Control). IsFine (control_params p.at (structs_of Last p) checksum_wants q)) e f

  apply_wanted : (o : Option Control) (c : Control) → o ≡ Some c → IsFine (control_params p.at (structs_of Last p) apply_wants o) → IsFine (wanted_tests p.at (structs_of Last p) apply_wants c.params)
  apply_wanted o c e f = subst (λ (q : Option Control). IsFine (control_params p.at (structs_of Last p) apply_wants q)) e f

  -- ---- where the parts begin

  apply_at : (n : ℕ) (c : Control) → control_in p n ≡ Some c → part_in p.main (named_in p.main n) ≡ place.Apply → IsFine (control_params p.at (structs_of Last p) apply_wants (control_in p n)) → (st : Store) → IsFit Of st
      → Fits (with_ways (control_rules p n) c.params) (under.in_control 0 1 2 (control_scope p n) c) st
  apply_at n c e h w st fit =
      (let k = here n c e in
      let fine = subst (λ (g : Part). IsFine (control_tests g (control_rules p n) c)) (part_of n c k.1 place.Apply h) k.0.fine in
      apply_begins p Last last (control_rules p n) (control_scope p n) k.0.front st fit p.at c (apply_wanted (control_in p n) c e w) fine.1.0)

  checksum_at : (n : ℕ) (c : Control) → control_in p n ≡ Some c → (g : Part) → part_in p.main (named_in p.main n) ≡ g → IsFine (control_params p.at (structs_of Last p) checksum_wants (control_in p n)) → (st : Store) → IsFit Of st
      → Fits (with_ways (control_rules p n) c.params) (under.in_control 0 1 9 (control_scope p n) c) st
  checksum_at n c e g h w st fit =
      (let k = here n c e in
      let fine = subst (λ (g : Part). IsFine (control_tests g (control_rules p n) c)) (part_of n c k.1 g h) k.0.fine in
      checksum_begins p Last last (control_rules p n) (control_scope p n) k.0.front st fit p.at c (checksum_wanted (control_in p n) c e w) fine.1.0)

  parser_at : (d : Parser) → parser_in p ≡ Some d → (st : Store) → IsFit Of st → Fits (in_states (parser_rules p) d) (in_parser (parser_scope p) d) st
  parser_at d e st fit = (let k = at_parser_here d e in parser_begins p Last last (parser_rules p) (parser_scope p) k.front st fit p.at d (parser_wants_here d e) k.fine.1.0)

  parts_begin : PartsBegin p
  parts_begin =
      record {
        standard = fit_standard Of;
        parser = parser_at;
        verify = λ c e st fit. checksum_at 1 c e place.Verify parts.verify parts.verify_wanted st fit;
        ingress = λ c e st fit. apply_at 2 c e parts.ingress parts.ingress_wanted st fit;
        egress = λ c e st fit. apply_at 3 c e parts.egress parts.egress_wanted st fit;
        compute = λ c e st fit. checksum_at 4 c e place.Compute parts.compute parts.compute_wanted st fit;
      }

  -- ---- along a passage

  parser_known : (d : Parser) → parser_in p ≡ Some d → IsKnown Of (in_states (parser_rules p) d) (in_parser (parser_scope p) d)
  parser_known d e =
      (let k = at_parser_here d e in
      let s = parser_rules p in
      record {
        tied = k.place;
        sound = states_sound d.states (with_ends (with_ways s d.params)) (ends_sound (with_ways s d.params) (ways_sound d.params s k.front.known.sound k.fine.1.0));
        names = states_names d.states (with_ends (with_ways s d.params)) (ends_names (with_ways s d.params) (ways_names d.params s k.front.names k.fine.1.0));
        words = k.words;
        owns = outside_owns (in_parser (parser_scope p) d) k.front.own;
      })

  parser_seen : (d : Parser) → parser_in p ≡ Some d → (r : Reading) → IsFitReading Of r → Sees Of (in_states (parser_rules p) d) (in_parser (parser_scope p) d) r.store × IsFit Of r.store
  parser_seen d e r fit = (seen_of Of (in_states (parser_rules p) d) (in_parser (parser_scope p) d) (parser_known d e) r.store (parser_at d e r.store fit.store), fit.store)

  passage_sees : PassageSees p
  passage_sees =
      (let stores = passage_stores_fit p well in
      record {
        parser = λ d e port frame. parse_along Of there (λ r. Sees Of (in_states (parser_rules p) d) (in_parser (parser_scope p) d) r.store × IsFit Of r.store) (parser_seen d e) Of.states (reading_before Of port frame) (stores.start port frame);
        verify = λ c e cells port frame. (let k = here 1 c e in checksum_sees p there Last last (control_rules p 1) (control_scope p 1) c k.0 place.Verify (part_of 1 c k.1 place.Verify parts.verify) refl refl (checksum_wanted (control_in p 1) c e parts.verify_wanted) (verify_run Of cells port frame) (stores.verify cells port frame));
        ingress = λ c e held cells port frame. (let k = here 2 c e in apply_sees p there Last last (control_rules p 2) (control_scope p 2) c k.0 (part_of 2 c k.1 place.Apply parts.ingress) (apply_wanted (control_in p 2) c e parts.ingress_wanted) held (ingress_run Of cells port frame) (stores.ingress cells port frame));
        egress = λ c e held cells q fit. (let k = here 3 c e in apply_sees p there Last last (control_rules p 3) (control_scope p 3) c k.0 (part_of 3 c k.1 place.Apply parts.egress) (apply_wanted (control_in p 3) c e parts.egress_wanted) held (egress_run cells q) fit);
        compute = λ c e held cells q fit. (let k = here 4 c e in checksum_sees p there Last last (control_rules p 4) (control_scope p 4) c k.0 place.Compute (part_of 4 c k.1 place.Compute parts.compute) refl refl (checksum_wanted (control_in p 4) c e parts.compute_wanted) (compute_run Of held cells q) (stores.egress_ends held cells q fit));
      })

pub each_part_begins : EachPartBegins
each_part_begins p well names values = parts_begin p well names values

pub each_passage_sees : EachPassageSees
each_passage_sees p well names values = passage_sees p well names values
