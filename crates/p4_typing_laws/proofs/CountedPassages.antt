-- The bound of a passage: the counts of ingress and egress, which stand somewhere among the declarations, once each.
use Rattle.std.proofs.Common.{◌≡◌, ℕ, ◌+◌, ◌≤◌, List, [], ◌∷◌, Bool, true, false, cond, not, ◌&&◌, codes, nat_lt, Option, Some, None, refl, sym, ap, ◌∙◌, subst, arith}
use Rattle.std.proofs.lemmas.Bool.Decides.{nat_tests}
use Rattle.lex_text.specs.Names.{same_text}
use Rattle.rule_tests.specs.Tests.{IsFine}
use Rattle.p4_tree.specs.Tree.{Control, Top, constant, typedef, header_type, struct_type, register, parser, control, Program}
use Rattle.p4_meaning.specs.Scope as meaning
use Rattle.p4_meaning.specs.Under.{no_scope, behind_top}
use Rattle.p4_meaning.specs.Actions.{Action, actions_of}
use Rattle.p4_meaning.specs.Tables.{Table, tables_of}
use Rattle.p4_meaning.specs.Parts.{whole, body_of, control_named, scope_at_control, parts_of}
use Rattle.p4_meaning.specs.DigestBound as bound
use Rattle.p4_meaning.specs.DigestBound.{none_told, most_named, most_applied, digest_bound}
use Rattle.p4_meaning.specs.Laws.{FewDigests}
use Rattle.p4_scopes.specs.Scopes.{is_missing, Scope, part, core, add_up}
use Rattle.p4_statement_rules.specs.declared.rule.Part.{Part}
use Rattle.p4_statement_rules.specs.declared.rule.Part.TheVariants as place
use Rattle.p4_declaration_rules.specs.Declarations.{has_twice}
use Rattle.p4_declaration_rules.specs.Controls.{part_in, top_tests, after_top, tops_tests, most_of_part, most_of_tops}
use Rattle.p4_rules.specs.Mains.{names_parts}
use Rattle.p4_rules.specs.Limits.{most_of_program}
use Rattle.p4_rules.specs.ProgramRules.{IsWellTyped}
use Rattle.p4_typing_laws.specs.Plain.{HavePlainNames}
use Rattle.p4_typing_laws.specs.Counted.{DigestsAreCounted}
use Rattle.p4_typing_laws.proofs.Fine.{twice_not, neither, typed_fine}
use Rattle.p4_typing_laws.proofs.Cut.{IsCut, zero_cut, other_cut, first_cut, second_cut, uncut}
use Rattle.p4_typing_laws.proofs.CallCounts.{text_is, text_same}
use Rattle.p4_typing_laws.proofs.FullNames.{other_text, none_named}
use Rattle.p4_typing_laws.proofs.CountedNames.{self_stands, core_keeps, core_calls, Nothing}
use Rattle.p4_typing_laws.proofs.CountedTops.{ControlCounts, IsBeforeTops, EachCounts, top_stays, each_counts}

broken : {A : Type 0} → true ≡ false → A
broken h = absurd (cc)

-- a name that stands for something is that of no control that is still to be declared
none_called : (main : List (List ℕ)) (ts : List Top) (s : Scope) → IsFine (tops_tests main s ts) → (x : List ℕ) → is_missing (s (x ∷ [])) ≡ false → control_named ts x ≡ None
none_called main [] s f x h = refl
none_called main (t ∷ ts) s f x h = one t f.0 (none_called main ts (after_top s t) f.1 x (ap is_missing (top_stays main s t f.0 x h) ∙ h))
  where
    one : (t : Top) → IsFine (top_tests main s t) → control_named ts x ≡ None → control_named (t ∷ ts) x ≡ None
    one (constant p ty y e) g more = more
    one (typedef p ty y) g more = more
    one (header_type p y fs) g more = more
    one (struct_type p y fs) g more = more
    one (register p r) g more = more
    one (parser p d) g more = more
    one (control p c) g more =
        ap (λ (b : Bool). cond b (Some c) (control_named ts x)) (other_text c.name x (λ e. (let c : true ≡ false = sym (twice_not _ g.0) ∙ ap (λ (y : List ℕ). is_missing (s (y ∷ []))) e ∙ h in cc))) ∙ more

-- i and e are the two names of controls that are run: of ingress and egress
record AreRun (main : List (List ℕ)) (i e : List ℕ) : Type 0 where
  first : part_in main i ≡ place.Apply
  second : part_in main e ≡ place.Apply
  apart : i ≡ e → ⊥
  alone : (s : Scope) (c : Control) → same_text c.name i ≡ false → same_text c.name e ≡ false → most_of_part (part_in main c.name) s c ≡ 0

module _ (as' : List Action) (tabs : List Table) (main : List (List ℕ)) where
  -- what the control of a name counts as ingress or egress, and as verify checksum
  abbrev run_count : meaning.Scope → Option Control → ℕ
  run_count sc o = bound.most_of (most_named as') (most_applied as' tabs) (whole (body_of 0 1 2 sc o))

  abbrev verify_count : meaning.Scope → Option Control → ℕ
  verify_count sc o = bound.most_of none_told none_told (whole (body_of 0 1 9 sc o))

  -- a control that is ingress or egress counts what the rules count of it
  part_counts : (s : Scope) (sc : meaning.Scope) (c : Control) → ControlCounts as' tabs main s sc c → (n : List ℕ) → c.name ≡ n → part_in main n ≡ place.Apply → IsCut (run_count sc (Some c)) (most_of_part (part_in main c.name) s c)
  part_counts s sc c counts n e h = subst (λ (g : Part). IsCut (run_count sc (Some c)) (most_of_part g s c)) (sym (ap (part_in main) e ∙ h)) counts.runs

  -- both count what the rules count of all declarations: no other control counts, and no control has the name of another
  two_count : (i e : List ℕ) → AreRun main i e → (ts : List Top) (s : Scope) (sc : meaning.Scope) → EachCounts as' tabs main s sc ts → IsFine (tops_tests main s ts)
      → IsCut (run_count (scope_at_control sc ts i) (control_named ts i) + run_count (scope_at_control sc ts e) (control_named ts e)) (most_of_tops main s ts)
  two_count i e r [] s sc k f = zero_cut
  two_count i e r (constant p t x v ∷ ts) s sc k f = other_cut _ _ _ refl (two_count i e r ts _ (behind_top sc (constant p t x v)) k f.1)
  two_count i e r (typedef p t x ∷ ts) s sc k f = other_cut _ _ _ refl (two_count i e r ts _ (behind_top sc (typedef p t x)) k f.1)
  two_count i e r (header_type p x fs ∷ ts) s sc k f = other_cut _ _ _ refl (two_count i e r ts _ sc k f.1)
  two_count i e r (struct_type p x fs ∷ ts) s sc k f = other_cut _ _ _ refl (two_count i e r ts _ sc k f.1)
  two_count i e r (register p g ∷ ts) s sc k f = other_cut _ _ _ refl (two_count i e r ts _ sc k f.1)
  two_count i e r (parser p d ∷ ts) s sc k f = other_cut _ _ _ refl (two_count i e r ts _ sc k f.1)
  two_count i e r (control p c ∷ ts) s sc k f = go (same_text c.name i) (same_text c.name e) refl refl (two_count i e r ts (after_top s (control p c)) sc k.1 f.1)
    where
      -- behind the control none has its name
      gone : (n : List ℕ) → c.name ≡ n → run_count (scope_at_control sc ts n) (control_named ts n) ≡ 0
      gone n q =
          ap (run_count (scope_at_control sc ts n))
          (none_called main ts (after_top s (control p c)) f.1 n (subst (λ (y : List ℕ). is_missing (after_top s (control p c) (y ∷ [])) ≡ false) q (ap is_missing (self_stands s c.name part))))

      go : (a b : Bool) → same_text c.name i ≡ a → same_text c.name e ≡ b
          → IsCut (run_count (scope_at_control sc ts i) (control_named ts i) + run_count (scope_at_control sc ts e) (control_named ts e)) (most_of_tops main (after_top s (control p c)) ts)
          → IsCut (run_count (cond a sc (scope_at_control sc ts i)) (cond a (Some c) (control_named ts i)) + run_count (cond b sc (scope_at_control sc ts e)) (cond b (Some c) (control_named ts e))) (add_up (most_of_part (part_in main c.name) s c) (most_of_tops main (after_top s (control p c)) ts))
      go true true x y more = absurd (r.apart (sym (text_is c.name i x) ∙ text_is c.name e y))
      go true false x y more = first_cut _ _ _ _ _ (part_counts s sc c k.0 i (text_is c.name i x) r.first) (gone i (text_is c.name i x)) more
      go false true x y more = second_cut _ _ _ _ _ (part_counts s sc c k.0 e (text_is c.name e y) r.second) (gone e (text_is c.name e y)) more
      go false false x y more = other_cut _ _ _ (r.alone s c x y) more

  verify_none : (n : List ℕ) → part_in main n ≡ place.Verify → (ts : List Top) (s : Scope) (sc : meaning.Scope) → EachCounts as' tabs main s sc ts → verify_count (scope_at_control sc ts n) (control_named ts n) ≡ 0
  verify_none n h [] s sc k = refl
  verify_none n h (constant p t x e ∷ ts) s sc k = verify_none n h ts _ (behind_top sc (constant p t x e)) k
  verify_none n h (typedef p t x ∷ ts) s sc k = verify_none n h ts _ (behind_top sc (typedef p t x)) k
  verify_none n h (header_type p x fs ∷ ts) s sc k = verify_none n h ts _ sc k
  verify_none n h (struct_type p x fs ∷ ts) s sc k = verify_none n h ts _ sc k
  verify_none n h (register p r ∷ ts) s sc k = verify_none n h ts _ sc k
  verify_none n h (parser p d ∷ ts) s sc k = verify_none n h ts _ sc k
  verify_none n h (control p c ∷ ts) s sc k = go (same_text c.name n) refl (verify_none n h ts (after_top s (control p c)) sc k.1)
    where
      go : (b : Bool) → same_text c.name n ≡ b → verify_count (scope_at_control sc ts n) (control_named ts n) ≡ 0 → verify_count (cond b sc (scope_at_control sc ts n)) (cond b (Some c) (control_named ts n)) ≡ 0
      go true e more = k.0.verifies (ap (part_in main) (text_is c.name n e) ∙ h)
      go false e more = more

-- ---- a program

false_apart : (x y : List ℕ) → same_text x y ≡ false → x ≡ y → ⊥
false_apart x y h e = (let c : true ≡ false = sym (text_same x y e) ∙ h in cc)

-- the names of verify checksum, ingress and egress differ
pub record AreApart (v i e : List ℕ) : Type 0 where
  pub first : v ≡ i → ⊥
  pub second : v ≡ e → ⊥
  pub third : i ≡ e → ⊥

are_apart : (v i e k m : List ℕ) → has_twice (v ∷ i ∷ e ∷ k ∷ m ∷ []) ≡ false → AreApart v i e
are_apart v i e k m h =
    let one = neither _ _ h in
    let two = neither _ _ one.1 in
    let vi = neither (same_text i v) _ one.0 in
    let ve = neither (same_text e v) _ vi.1 in
    let ie = neither (same_text e i) _ two.0 in
    record {
      first = λ q. false_apart i v vi.0 (sym q);
      second = λ q. false_apart e v ve.0 (sym q);
      third = λ q. false_apart e i ie.0 (sym q);
    }

verify_part : (d v i e k m : List ℕ) → part_in (d ∷ v ∷ i ∷ e ∷ k ∷ m ∷ []) v ≡ place.Verify
verify_part d v i e k m = ap (λ (b : Bool). cond b place.Verify (cond (same_text i v) place.Apply (cond (same_text e v) place.Apply (cond (same_text k v) place.Compute (cond (same_text m v) place.Deparser place.Other))))) (text_same v v refl)

ingress_part : (d v i e k m : List ℕ) → (v ≡ i → ⊥) → part_in (d ∷ v ∷ i ∷ e ∷ k ∷ m ∷ []) i ≡ place.Apply
ingress_part d v i e k m h = go (same_text v i) (same_text i i) (other_text v i h) (text_same i i refl)
  where
    go : (a b : Bool) → a ≡ false → b ≡ true → cond a place.Verify (cond b place.Apply (cond (same_text e i) place.Apply (cond (same_text k i) place.Compute (cond (same_text m i) place.Deparser place.Other)))) ≡ place.Apply
    go true b p q = absurd (cc)
    go false true p q = refl
    go false false p q = absurd (cc)

egress_part : (d v i e k m : List ℕ) → (v ≡ e → ⊥) → part_in (d ∷ v ∷ i ∷ e ∷ k ∷ m ∷ []) e ≡ place.Apply
egress_part d v i e k m h = go (same_text v e) (same_text i e) (same_text e e) (other_text v e h) (text_same e e refl)
  where
    go : (a b c : Bool) → a ≡ false → c ≡ true → cond a place.Verify (cond b place.Apply (cond c place.Apply (cond (same_text k e) place.Compute (cond (same_text m e) place.Deparser place.Other)))) ≡ place.Apply
    go true b c p q = absurd (cc)
    go false true c p q = refl
    go false false true p q = refl
    go false false false p q = absurd (cc)

-- no other control is run
others_none : (d v i e k m : List ℕ) (s : Scope) (c : Control) → same_text c.name i ≡ false → same_text c.name e ≡ false → most_of_part (part_in (d ∷ v ∷ i ∷ e ∷ k ∷ m ∷ []) c.name) s c ≡ 0
others_none d v i e k m s c h g =
    go (same_text v c.name) (same_text i c.name) (same_text e c.name) (same_text k c.name) (same_text m c.name)
    (other_text i c.name (λ q. false_apart c.name i h (sym q))) (other_text e c.name (λ q. false_apart c.name e g (sym q)))
  where
    go : (a b f k' m' : Bool) → b ≡ false → f ≡ false → most_of_part (cond a place.Verify (cond b place.Apply (cond f place.Apply (cond k' place.Compute (cond m' place.Deparser place.Other))))) s c ≡ 0
    go true b f k' m' p q = refl
    go false true f k' m' p q = broken p
    go false false true k' m' p q = broken q
    go false false false true m' p q = refl
    go false false false false true p q = refl
    go false false false false false p q = refl

and_second : (a b : Bool) → (a && b) ≡ true → b ≡ true
and_second true b h = h
and_second false b h = absurd (let c : false ≡ true = h in cc)

not_true : (b : Bool) → not b ≡ true → b ≡ false
not_true true h = absurd (let c : false ≡ true = h in cc)
not_true false h = refl

limit_is : (n : ℕ) → nat_lt 20480 n ≡ false → n ≤ 20480
limit_is n h = grind (arith, nat_tests)

pub most_limit : (p : Program) → IsWellTyped p → most_of_program p ≤ 20480
most_limit p h = limit_is (most_of_program p) (typed_fine p h).1.1.1.0

none_before : (v a b m : ℕ) → v ≡ 0 → a + b ≡ m → (v + a) + b ≡ m
none_before v a b m h k = omega (arith, h, k)

bound_of : (at : ℕ) (ts : List Top) (main : List (List ℕ)) → (let p : Program = record { at = at; tops = ts; main = main } in names_parts ts main ≡ true → IsFine (tops_tests main core ts) → HavePlainNames ts → most_of_program p ≤ 20480 → digest_bound (parts_of p) ≡ most_of_program p)
bound_of at ts (d ∷ v ∷ i ∷ e ∷ k ∷ m ∷ []) names f plain most =
    let main = d ∷ v ∷ i ∷ e ∷ k ∷ m ∷ [] in
    let as' = actions_of no_scope ts in
    let tabs = tables_of no_scope (actions_of no_scope ts) ts in
    let apart = are_apart v i e k m (not_true _ (and_second _ _ names)) in
    let begins : IsBeforeTops as' tabs main no_scope ts core = record { core = core_keeps; calls = core_calls Nothing Nothing; finds_actions = λ c x q n. refl; finds_tables = λ c x q n. refl } in
    let counts = each_counts as' tabs (none_named ts no_scope (codes "NoAction") refl plain) main ts core no_scope begins plain f in
    let run : AreRun main i e = record { first = ingress_part d v i e k m apart.first; second = egress_part d v i e k m apart.second; apart = apart.third; alone = others_none d v i e k m } in
    let two = two_count as' tabs main i e run ts core no_scope counts f in
    let verify = verify_none as' tabs main v (verify_part d v i e k m) ts core no_scope counts in
    none_before _ _ _ _ verify (uncut _ _ two most)
bound_of at ts [] names f plain most = broken (sym names)
bound_of at ts (a ∷ []) names f plain most = broken (sym names)
bound_of at ts (a ∷ b ∷ []) names f plain most = broken (sym names)
bound_of at ts (a ∷ b ∷ c ∷ []) names f plain most = broken (sym names)
bound_of at ts (a ∷ b ∷ c ∷ d ∷ []) names f plain most = broken (sym names)
bound_of at ts (a ∷ b ∷ c ∷ d ∷ e ∷ []) names f plain most = broken (sym names)
bound_of at ts (a ∷ b ∷ c ∷ d ∷ e ∷ g ∷ h ∷ rest) names f plain most = broken (sym names)

pub program_bound : (p : Program) → IsWellTyped p → HavePlainNames p.tops → digest_bound (parts_of p) ≡ most_of_program p
program_bound p h plain = (let f = typed_fine p h in bound_of p.at p.tops p.main (twice_not (names_parts p.tops p.main) f.1.0.0) f.0 plain (most_limit p h))

pub digests_counted : FewDigests → DigestsAreCounted
digests_counted few =
    record {
      bound = program_bound;
      limit = most_limit;
      passages = λ p h plain held l cells port frame q. (let k = few (parts_of p) held l cells port frame q in let b = program_bound p h plain in omega (arith, k.0, k.1, b));
    }
