-- Which part each name of `main` is, where `main` names a parser and five controls that differ.
use Rattle.std.proofs.Common.{◌≡◌, ℕ, List, [], ◌∷◌, Bool, true, false, not, ◌&&◌, is_some, refl, sym, ◌∙◌}
use Rattle.lex_text.specs.Names.{same_text}
use Rattle.p4_tree.specs.Tree.{Top}
use Rattle.p4_meaning.specs.Parts.{parser_named, named_in}
use Rattle.p4_parser_states.specs.Cycles as cycles
use Rattle.p4_statement_rules.specs.declared.rule.Part.TheVariants as place
use Rattle.p4_declaration_rules.specs.Declarations.{has_twice}
use Rattle.p4_declaration_rules.specs.Controls.{part_in}
use Rattle.p4_rules.specs.Mains.{has_controls, names_parts}
use Rattle.p4_typing_laws.proofs.Fine.{neither}
use Rattle.p4_typing_laws.proofs.CallCounts.{text_same}
use Rattle.p4_typing_laws.proofs.FullNames.{other_text}

broken : {A : Type 0} → true ≡ false → A
broken h = absurd (cc)

-- the part that each name of `main` behind the parser's is
pub record HaveParts (main : List (List ℕ)) : Type 0 where
  pub verify : part_in main (named_in main 1) ≡ place.Verify
  pub ingress : part_in main (named_in main 2) ≡ place.Apply
  pub egress : part_in main (named_in main 3) ≡ place.Apply
  pub compute : part_in main (named_in main 4) ≡ place.Compute
  pub deparser : part_in main (named_in main 5) ≡ place.Deparser

turned : (x y : List ℕ) → same_text x y ≡ false → same_text y x ≡ false
turned x y h = other_text y x (λ e. (let c : true ≡ false = sym (text_same x y (sym e)) ∙ h in absurd (cc)))

not_twice : (a b c : Bool) → (a && b && not c) ≡ true → c ≡ false
not_twice true true false h = refl
not_twice _ _ _ h = broken (sym h)

pub have_parts : (ts : List Top) (main : List (List ℕ)) → names_parts ts main ≡ true → HaveParts main
have_parts ts (d ∷ v ∷ i ∷ e ∷ k ∷ m ∷ []) h =
    let apart = not_twice (is_some (parser_named ts d)) (has_controls ts (v ∷ i ∷ e ∷ k ∷ m ∷ [])) (has_twice (v ∷ i ∷ e ∷ k ∷ m ∷ [])) h in
    let vs = neither (cycles.is_among (i ∷ e ∷ k ∷ m ∷ []) v) (has_twice (i ∷ e ∷ k ∷ m ∷ [])) apart in
    let is = neither (cycles.is_among (e ∷ k ∷ m ∷ []) i) (has_twice (e ∷ k ∷ m ∷ [])) vs.1 in
    let es = neither (cycles.is_among (k ∷ m ∷ []) e) (has_twice (k ∷ m ∷ [])) is.1 in
    let ks = neither (cycles.is_among (m ∷ []) k) (has_twice (m ∷ [])) es.1 in
    let v_i = neither (same_text i v) (cycles.is_among (e ∷ k ∷ m ∷ []) v) vs.0 in
    let v_e = neither (same_text e v) (cycles.is_among (k ∷ m ∷ []) v) v_i.1 in let v_k = neither (same_text k v) (cycles.is_among (m ∷ []) v) v_e.1 in let v_m = neither (same_text m v) false v_k.1 in
    let i_e = neither (same_text e i) (cycles.is_among (k ∷ m ∷ []) i) is.0 in let i_k = neither (same_text k i) (cycles.is_among (m ∷ []) i) i_e.1 in let i_m = neither (same_text m i) false i_k.1 in
    let e_k = neither (same_text k e) (cycles.is_among (m ∷ []) e) es.0 in let e_m = neither (same_text m e) false e_k.1 in
    let k_m = neither (same_text m k) false ks.0 in
    let v_not_i = turned i v v_i.0 in let v_not_e = turned e v v_e.0 in let v_not_k = turned k v v_k.0 in let v_not_m = turned m v v_m.0 in
    let i_not_e = turned e i i_e.0 in let i_not_k = turned k i i_k.0 in let i_not_m = turned m i i_m.0 in
    let e_not_k = turned k e e_k.0 in let e_not_m = turned m e e_m.0 in let k_not_m = turned m k k_m.0 in
    let verify : part_in (d ∷ v ∷ i ∷ e ∷ k ∷ m ∷ []) v ≡ place.Verify = (let same = text_same v v refl in cc) in
    let ingress : part_in (d ∷ v ∷ i ∷ e ∷ k ∷ m ∷ []) i ≡ place.Apply = (let same = text_same i i refl in cc) in
    let egress : part_in (d ∷ v ∷ i ∷ e ∷ k ∷ m ∷ []) e ≡ place.Apply = (let same = text_same e e refl in cc) in
    let compute : part_in (d ∷ v ∷ i ∷ e ∷ k ∷ m ∷ []) k ≡ place.Compute = (let same = text_same k k refl in cc) in
    let deparser : part_in (d ∷ v ∷ i ∷ e ∷ k ∷ m ∷ []) m ≡ place.Deparser = (let same = text_same m m refl in cc) in
    record { verify = verify; ingress = ingress; egress = egress; compute = compute; deparser = deparser }
have_parts ts _ h = broken (sym h)
