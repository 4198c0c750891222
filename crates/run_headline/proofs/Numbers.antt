-- Variables by their numbers and by their names.
use Rattle.std.proofs.Common.{◌≡◌, ℕ, zero, suc, ◌+◌, ◌≤◌, List, [], ◌∷◌, Bool, true, false, cond, Some, sym, ap, ◌∙◌, arith}
use Rattle.std.specs.Prelude.{slice_get}
use Rattle.lex_text.specs.Names.{same_text}
use Rattle.indus_tree.specs.Tree.{Decl}
use Rattle.indus_tree.specs.State.{lookup}
use Rattle.indus_tree.specs.Hops.{variable_number, variable_number_from}
use Rattle.flat_laws.proofs.NameLemmas.{same_self}
use Rattle.flat_laws.proofs.Lookups.{number_bounds}
use Rattle.whole_properties.proofs.Once.{AreOnce, other_name}

-- ---- from a name

-- what is found by a name stands at the name's number
there_from : (ds : List Decl) (n w : ℕ) (x : List ℕ) (d : Decl) (v : ℕ) → lookup ds x ≡ Some d → variable_number_from n ds x ≡ Some v → v ≡ n + w → slice_get ds w ≡ Some d
there_from [] n w x d v e k same = absurd (cc e)
there_from (c ∷ cs) n w x d v e k same = go (same_text c.name x) e k (λ u i j next. there_from cs (n + 1) u x d v i j next)
  where
    at_first : (u : ℕ) → u ≡ 0 → c ≡ d → slice_get (c ∷ cs) u ≡ Some d
    at_first u first one = ap (slice_get (c ∷ cs)) first ∙ ap Some one

    behind : (u : ℕ) → v ≡ n + u → n + 1 ≤ v → ((y : ℕ) → v ≡ n + 1 + y → slice_get cs y ≡ Some d) → slice_get (c ∷ cs) u ≡ Some d
    behind zero q low more = absurd (omega (arith, q, low))
    behind (suc u) q low more = more u (omega (arith, q))

    go :
        (b : Bool) → cond b (Some c) (lookup cs x) ≡ Some d → cond b (Some n) (variable_number_from (n + 1) cs x) ≡ Some v →
        ((u : ℕ) → lookup cs x ≡ Some d → variable_number_from (n + 1) cs x ≡ Some v → v ≡ n + 1 + u → slice_get cs u ≡ Some d) → slice_get (c ∷ cs) w ≡ Some d
    go true i j more = (let one : c ≡ d = cc i in let number : n ≡ v = cc j in at_first w (omega (arith, number, same)) one)
    go false i j more = behind w same (number_bounds cs (n + 1) x v j).0 (λ u. more u i j)

pub slice_there : (ds : List Decl) (x : List ℕ) (d : Decl) (v : ℕ) → lookup ds x ≡ Some d → variable_number ds x ≡ Some v → slice_get ds v ≡ Some d
slice_there ds x d v e k = there_from ds 0 v x d v e k (omega arith)

-- ---- from a number

-- where each name is declared once, a declaration is found by its name, and its number is its place
pub record IsAt (ds : List Decl) (n w : ℕ) (d : Decl) : Type 0 where
  pub found : lookup ds d.name ≡ Some d
  pub number : variable_number_from n ds d.name ≡ Some (n + w)

at_from : (ds : List Decl) (n w : ℕ) (d : Decl) → AreOnce ds → slice_get ds w ≡ Some d → IsAt ds n w d
at_from [] n w d once e = absurd (cc e)
at_from (c ∷ cs) n zero d once e =
    let one : c ≡ d = cc e in
    let same : same_text c.name d.name ≡ true = ap (λ (y : List ℕ). same_text c.name y) (sym (ap (λ (a : Decl). a.name) one)) ∙ same_self c.name in
    record {
      found = ap (λ b. cond b (Some c) (lookup cs d.name)) same ∙ ap Some one;
      number = ap (λ b. cond b (Some n) (variable_number_from (n + 1) cs d.name)) same ∙ ap Some (omega arith);
    }
at_from (c ∷ cs) n (suc w) d once e =
    let rest : IsAt cs (n + 1) w d = at_from cs (n + 1) w d once.1 e in
    let other : same_text c.name d.name ≡ false = other_name c cs once.0 d.name d rest.found in
    record {
      found = ap (λ b. cond b (Some c) (lookup cs d.name)) other ∙ rest.found;
      number = ap (λ b. cond b (Some n) (variable_number_from (n + 1) cs d.name)) other ∙ (rest.number ∙ ap Some (omega arith));
    }

pub is_at : (ds : List Decl) (v : ℕ) (d : Decl) → AreOnce ds → slice_get ds v ≡ Some d → IsAt ds 0 v d
is_at ds v d once e = at_from ds 0 v d once e
