-- One table more is emptied, or given the contents.
use Rattle.std.proofs.Common.{◌≡◌, ◌≢◌, ℕ, ◌+◌, ◌<◌, List, [], length, get_or, true, Option, Some, None, sym, ap, ◌∙◌, subst, arith, refl}
use Rattle.std.specs.Prelude.{nat_eq, slice_get}
use Rattle.std.specs.Option.{option_map}
use Rattle.std.proofs.lemmas.Bool.{eq-eqb, ne_eqb}
use Rattle.std.proofs.lemmas.Option.{slice_get-map, slice_get_read}
use Rattle.indus_tree.specs.State.{Contents}
use Rattle.indus_tree.specs.declared.tree.Decl.{Decl}
use Rattle.p4_meaning.specs.Parts.{Parts}
use Rattle.table_entries.specs.Entries.{Entry, Act}
use Rattle.p4_tables.specs.State.{Held, held_at, replaced}
use Rattle.p4_tables.specs.Faults.{IsReplaceable}
use Rattle.control_tables.specs.Contents.{entries_for, default_for}
use Rattle.control_maps.specs.Numbers.{Numbered, IsMapOf, AreTaken, IsSettable, put_in}
use Rattle.control_maps.specs.Steps.{AreEmptied, AreFilled}
use Rattle.control_maps.proofs.Places.{all_at, form_at, other_replaced}
use Rattle.control_maps.proofs.Filling.{emptied_next, emptied_skip, filled_next, filled_skip, filled_taken}
use Rattle.set_contents.specs.Maps.{map_of, numbered_of}
use Rattle.set_contents.specs.Others.{OthersHold}

-- the table at a place of the map
pub item_there : (items : List (ℕ × ℕ × ℕ × Decl)) (i : ℕ) (x : ℕ × ℕ × ℕ × Decl) → i < length items → x ≡ get_or items i x → slice_get (map_of items) i ≡ Some (numbered_of x)
item_there items i x there is = slice_get-map numbered_of items i ∙ ap (option_map numbered_of) (slice_get_read items (length items) i x refl there is)

module _ (f : Parts) (ns : List Numbered) (v i : ℕ) (m : Numbered) (here : slice_get ns i ≡ Some m) where
  -- a table that a map has is there
  pub in_map : (st : List Held) → IsMapOf f st ns → m.table < length st
  in_map st is = let form = form_at f st ns i m here is in omega (arith, form.long, form.there)

  module _ (own : m.variable ≡ v) where
    is_own : nat_eq m.variable v ≡ true
    is_own = eq-eqb m.variable v own

    -- where it holds something else, others hold what they held
    pub others_next : (old now next : List Held) (es : List Entry) (d : Option Act) → IsMapOf f now ns → next ≡ replaced now m.table es d → OthersHold ns v old now → OthersHold ns v old next
    others_next old now next es d mapped is hold n other =
        let apart : m.table ≢ n = all_at (λ (k : Numbered). nat_eq k.variable v ≡ true → k.table ≢ n) ns i m here other is_own in
        ap (λ (st : List Held). held_at st n) is ∙ (other_replaced now m.table n es d (in_map now mapped) (λ q. apart (sym q)) ∙ hold n other)

    -- it is emptied
    pub empties : (old now next : List Held) → next ≡ replaced now m.table [] None → AreEmptied f ns v old now i → AreEmptied f ns v old next (i + 1)
    empties old now next is so_far = subst (λ (st : List Held). AreEmptied f ns v old st (i + 1)) (sym is) (emptied_next f ns v old now i m here so_far is_own)

    -- it is given the contents, which it takes
    module _ (c : Contents) (old now : List Held) (so_far : AreFilled f ns v c old now i) (settable : IsSettable old ns v c) where
      taken : AreTaken old ns v c m
      taken = all_at (λ (n : Numbered). nat_eq n.variable v ≡ true → AreTaken old ns v c n) ns i m here settable is_own

      pub takes : IsReplaceable now m.table (entries_for m.action c) (default_for m.action c)
      takes = filled_taken f ns v c old now i m here so_far is_own taken.shape taken.keys taken.few

      pub fills : (next : List Held) → next ≡ put_in m c now → AreFilled f ns v c old next (i + 1)
      fills next is = subst (λ (st : List Held). AreFilled f ns v c old st (i + 1)) (sym is) (filled_next f ns v c old now i m here so_far is_own taken.shape)

  -- a table of another variable is passed over
  module _ (other : m.variable ≢ v) (old now next : List Held) (is : next ≡ now) where
    pub empties_other : AreEmptied f ns v old now i → AreEmptied f ns v old next (i + 1)
    empties_other so_far = subst (λ (st : List Held). AreEmptied f ns v old st (i + 1)) (sym is) (emptied_skip f ns v old now i m here so_far (ne_eqb m.variable v other))

    pub fills_other : (c : Contents) → AreFilled f ns v c old now i → AreFilled f ns v c old next (i + 1)
    fills_other c so_far = subst (λ (st : List Held). AreFilled f ns v c old st (i + 1)) (sym is) (filled_skip f ns v c old now i m here so_far (ne_eqb m.variable v other))

    pub others_same : OthersHold ns v old now → OthersHold ns v old next
    others_same hold n out = ap (λ (st : List Held). held_at st n) is ∙ hold n out
