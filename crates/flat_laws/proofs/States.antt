-- Writes on both sides keep the second state the numbered form of the first.
use Rattle.std.proofs.Common.{◌≡◌, ◌⊎◌, inl, inr, ⊎_elim, ℕ, zero, suc, ◌+◌, ◌<◌, ◌≤◌, ◌^◌, List, [], ◌∷◌, ◌++◌, length, Bool, true, false, cond, Option, Some, None, refl, sym, ap, ap₂, ◌∙◌, arith, subst}
use Rattle.std.proofs.lemmas.Bool.{cases_eq}
use Rattle.std.proofs.lemmas.Slice.Eq.{bytes_eq-Decides}
use Rattle.bit_values.specs.Bits.{Word, word}
use Rattle.lex_text.specs.Names.{same_text}
use Rattle.network_run.specs.PathMeaning.{Doing}
use Rattle.indus_tree.specs.Tree.{Shape, one, list, set, dict, Decl}
use Rattle.indus_tree.specs.State.{Hop, Held, lookup, put, put_cell, set_cell}
use Rattle.indus_tree.specs.Hops.{variable_number, variable_number_from}
use Rattle.indus_tree.specs.declared.tree.DeclKind.{DeclKind}
use Rattle.indus_tree.specs.declared.tree.DeclKind.TheVariants.{Tele, Sensor, Header, Control}
use Rattle.lower_lists.specs.Names.{item_name, count_name}
use Rattle.flat_laws.specs.Numbered.{Holds, HoldsList, Numbers}
use Rattle.flat_laws.proofs.NameLemmas.{same_self, apart, slot, slots_apart}
use Rattle.flat_laws.proofs.Lookups.{number_bounds}
use Rattle.flat_laws.proofs.Writes.{put_same, put_other, holds_still}

name_cases_at : (p q : List ℕ) (b : Bool) → same_text p q ≡ b → (p ≡ q) ⊎ (p ≡ q → ⊥)
name_cases_at p q true e = inl ((bytes_eq-Decides p q).0 e)
name_cases_at p q false e = inr (λ h. let one_not : true ≡ false = sym ((bytes_eq-Decides p q).1 h) ∙ e in cc)

pub name_cases : (p q : List ℕ) → (p ≡ q) ⊎ (p ≡ q → ⊥)
name_cases p q = name_cases_at p q (same_text p q) refl

-- ---- numbers and declarations

-- a declared name has a number
pub has_number : (ds : List Decl) (n : ℕ) (x : List ℕ) (d : Decl) → lookup ds x ≡ Some d → (v : ℕ) × (variable_number_from n ds x ≡ Some v)
has_number [] n x d e = absurd (cc e)
has_number (c ∷ cs) n x d e = at_first (same_text c.name x) e (has_number cs (n + 1) x d)
  where
    at_first : (b : Bool) → cond b (Some c) (lookup cs x) ≡ Some d → (lookup cs x ≡ Some d → (v : ℕ) × (variable_number_from (n + 1) cs x ≡ Some v)) → (v : ℕ) × (cond b (Some n) (variable_number_from (n + 1) cs x) ≡ Some v)
    at_first true q h = (n, refl)
    at_first false q h = h q

number_inj_at : (b c : Bool) (n : ℕ) (x y z : List ℕ) (o p : Option ℕ) (v : ℕ) → same_text z x ≡ b → same_text z y ≡ c
    → ((v : ℕ) → o ≡ Some v → n < v) → ((v : ℕ) → p ≡ Some v → n < v) → (o ≡ Some v → p ≡ Some v → x ≡ y)
    → cond b (Some n) o ≡ Some v → cond c (Some n) p ≡ Some v → x ≡ y
number_inj_at true true n x y z o p v ex ey lo lp rest e f = sym ((bytes_eq-Decides z x).0 ex) ∙ (bytes_eq-Decides z y).0 ey
number_inj_at true false n x y z o p v ex ey lo lp rest e f = absurd (let same : n ≡ v = cc in omega (arith, lp v f, same))
number_inj_at false true n x y z o p v ex ey lo lp rest e f = absurd (let same : n ≡ v = cc in omega (arith, lo v e, same))
number_inj_at false false n x y z o p v ex ey lo lp rest e f = rest e f

pub number-inj : (ds : List Decl) (n : ℕ) (x y : List ℕ) (v : ℕ) → variable_number_from n ds x ≡ Some v → variable_number_from n ds y ≡ Some v → x ≡ y
number-inj [] n x y v e f = absurd (cc e)
number-inj (c ∷ cs) n x y v e f =
    number_inj_at (same_text c.name x) (same_text c.name y) n x y c.name (variable_number_from (n + 1) cs x) (variable_number_from (n + 1) cs y) v refl refl
    (λ u q. omega (arith, (number_bounds cs (n + 1) x u q).0))
    (λ u q. omega (arith, (number_bounds cs (n + 1) y u q).0))
    (number-inj cs (n + 1) x y v) e f

pub number_small : (ds : List Decl) (x : List ℕ) (v : ℕ) → length ds ≤ 2 ^ 32 → variable_number ds x ≡ Some v → v < 2 ^ 32
number_small ds x v few e = omega (arith, few, (number_bounds ds 0 x v e).1)

pub some_is : (d e : Decl) → (let a : Option Decl = Some d in a ≡ Some e) → d ≡ e
some_is d e h = cc h

pub number_is : (v u : ℕ) → (let a : Option ℕ = Some v in a ≡ Some u) → v ≡ u
number_is v u h = cc h

-- ---- a variable of the packet's is written

module _ (ds : List Decl) (few : length ds ≤ 2 ^ 32) (x : List ℕ) (d : Decl) (v : ℕ) (found : lookup ds x ≡ Some d) (number : variable_number ds x ≡ Some v) where
  pub written : (s s' f f' : Doing Held Held) → Numbers ds s f
      → ((y : List ℕ) → same_text x y ≡ false → s'.tele y ≡ s.tele y)
      → ((u : ℕ) (b : Option ℕ) → u < 2 ^ 32 → (v ≡ u → ⊥) → f'.tele (slot u b) ≡ f.tele (slot u b))
      → (d.kind ≡ Tele → Holds v d.shape (s'.tele x) f'.tele)
      → f'.sensors ≡ s'.sensors → f'.rejected ≡ s'.rejected → f'.reports ≡ s'.reports
      → Numbers ds s' f'
  written s s' f f' n others slots here sensors rejected reports =
      record {
        tele = λ y e u fy ny tele.
            ⊎_elim
            (λ (same : x ≡ y).
            let de : d ≡ e = some_is d e (sym found ∙ ap (lookup ds) same ∙ fy) in
            let vu : v ≡ u = number_is v u (sym number ∙ ap (variable_number ds) same ∙ ny) in
            let h : Holds v d.shape (s'.tele x) f'.tele = here (ap (λ (a : Decl). a.kind) de ∙ tele) in
            subst (λ (w : ℕ). Holds w e.shape (s'.tele y) f'.tele) vu
            (subst (λ (a : Decl). Holds v a.shape (s'.tele y) f'.tele) de
            (subst (λ (q : List ℕ). Holds v d.shape (s'.tele q) f'.tele) same h)))
            (λ (ne : x ≡ y → ⊥).
            let nu : v ≡ u → ⊥ = λ q. ne (number-inj ds 0 x y v number (ny ∙ ap Some (sym q))) in
            subst (λ (ws : List Word). Holds u e.shape ws f'.tele) (sym (others y (apart x y ne)))
            (holds_still u e.shape (s.tele y) f.tele f'.tele (λ b. slots u b (number_small ds y u few ny) nu) (n.tele y e u fy ny tele)))
            (name_cases x y);
        sensors = sensors;
        rejected = rejected;
        reports = reports;
      }

  -- a scalar takes a word
  pub scalar_written : (s f : Doing Held Held) (ws : List Word) → Numbers ds s f → (t : _) → d.shape ≡ one t
      → Numbers ds (record s { tele = put s.tele x ws }) (record f { tele = put f.tele (item_name v 0) ws })
  scalar_written s f ws n t shape =
      written s (record s { tele = put s.tele x ws }) f (record f { tele = put f.tele (item_name v 0) ws }) n
      (λ y e. put_other s.tele x ws y e)
      (λ u b lu ne. put_other f.tele (item_name v 0) ws (slot u b) (slots_apart v u (Some 0) b (number_small ds x v few number) lu ne))
      (λ tele. subst (λ (h : Shape). Holds v h (put s.tele x ws x) (put f.tele (item_name v 0) ws)) (sym shape) (put_same f.tele (item_name v 0) ws ∙ sym (put_same s.tele x ws)))
      n.sensors n.rejected n.reports

-- a sensor takes words
pub sensor_written : (ds : List Decl) (s f : Doing Held Held) (x : List ℕ) (m : ℕ) (w : Word) → Numbers ds s f
    → Numbers ds (record s { sensors = put s.sensors x (put_cell (s.sensors x) m w) }) (record f { sensors = put f.sensors x (put_cell (f.sensors x) m w) })
sensor_written ds s f x m w n =
    record {
      tele = n.tele;
      sensors = ap (λ (g : Held). put g x (put_cell (g x) m w)) n.sensors;
      rejected = n.rejected;
      reports = n.reports;
    }
