-- Variables behind the places of a control: a variable more, and what stays as it was.
use Rattle.std.proofs.Common.{◌≡◌, ◌≢◌, inr, ⊎_elim, ℕ, zero, suc, ◌+◌, ◌-◌, ◌<◌, ◌≤◌, length, List, [], ◌∷◌, ◌++◌, Bool, true, false, ◌&&◌, is_some, if◌then◌else◌, Option, Some, None, refl, sym, ap, ◌∙◌, subst, arith}
use Rattle.std.specs.Option.{option_map}
use Rattle.lex_text.specs.Names.{same_path, parent}
use Rattle.bit_values.specs.Widths.{sound_width}
use Rattle.p4_tree.specs.Tree.{Stmt, nothing, block, var, assign, choice, return_, exit_, call}
use Rattle.p4_meaning.specs.Value.{width_of}
use Rattle.p4_meaning.specs.Parsing.{Field}
use Rattle.p4_meaning.specs.Actions.{Param}
use Rattle.slot_terms.specs.Places.{Place, Places, place_at, header_number, IsLaid}
use Rattle.slot_terms.proofs.LaidLemmas.{added_or_old}
use Rattle.slot_statements.specs.Runs.{Grows}
use Rattle.slot_statements.specs.Starts.{IsNew}
use Rattle.slot_statements.specs.Parameters.{with_row, with_params}
use Rattle.slot_statements.specs.Known.{can_drop, is_free, is_known_start, is_known_target, is_known_test, only_if, places_behind, places_behind_all, has_else}
use Rattle.slot_statements.proofs.KnownLemmas.{IsFree, AreFree, free_name, and_second}
use Rattle.slot_statements.proofs.FlowLemmas.{found_before, grows_twice}
use Rattle.slot_statements.proofs.CallLemmas.{row_new, row_grows}
use Rattle.slot_statements.proofs.VarLemmas.{new_row}
use Rattle.slot_packets.specs.Headers.{FieldsAt, IsHeaderAt}
use Rattle.slot_controls.specs.Steps.{HeaderSlots}
use Rattle.slot_controls.specs.Callees.{AddsVariables, IsLaidOut, IsVariable}
use Rattle.slot_controls.specs.StepRuns.{Widens}

-- ---- a variable more

pub widens_same : (m n : Places) → n ≡ m → Widens m n
widens_same m n e base adds = subst (λ q. AddsVariables base q) (sym e) adds

pub widens_twice : (m n q : Places) → Widens m n → Widens n q → Widens m q
widens_twice m n q f g base adds = g base (f base adds)

is_variable : (base : Places) (x : List ℕ) (w i : ℕ) → base.next ≤ i → (p : List (List ℕ)) (r : Place) → r ≡ new_row x w i → p ≡ x ∷ [] → IsVariable base p r
is_variable base x w i le p r e k = record {
  header = ap (λ (t : Place). t.header) e;
  behind = subst (λ j. base.next ≤ j) (sym (ap (λ (t : Place). t.slot) e)) le;
  path = ap parent k;
}

widens_new : (m : Places) (x : List ℕ) (w : ℕ) → IsFree m x → Widens m (with_row m x w)
widens_new m x w free base adds =
    let n : Places = with_row m x w in
    let new : IsNew m n x w m.next = row_new m x w free in
    let le : base.next ≤ m.next = adds.next in
    record {
      grows = grows_twice base m n adds.grows (row_grows m x w);
      next = omega (arith, le);
      variables = λ p r e. ⊎_elim
          (λ (o : place_at m.rows p ≡ Some r). adds.variables p r o)
          (λ (o : (r ≡ new_row x w m.next) × (p ≡ x ∷ [])). inr (is_variable base x w m.next le p r o.0 o.1))
          (added_or_old m n (x ∷ []) w None m.next new p r e);
    }

pub widens_row : (m : Places) (x : List ℕ) (w : ℕ) → is_free m x ≡ true → Widens m (with_row m x w)
widens_row m x w free = widens_new m x w (free_name m x free)

only_is : (b : Bool) (m n : Places) → only_if b m ≡ Some n → (b ≡ true) × (m ≡ n)
only_is true m n e = (refl, cc e)
only_is false m n e = absurd (cc e)

kept_where : (b : Bool) (m n : Places) → only_if b m ≡ Some n → Widens m n
kept_where b m n e = widens_same m n (sym (only_is b m n e).1)

-- what has code declares variables alone
pub code_widens : (st : Stmt) (m n : Places) → places_behind st m ≡ Some n → Widens m n
code_widens (nothing p) m n e = kept_where true m n e
code_widens (block p ss) m n e = kept_where (is_some (places_behind_all ss m)) m n e
code_widens (var p ty x start) m n e =
    let w : ℕ = sound_width (width_of ty) in
    let o : ((is_known_start m start && is_free m x) ≡ true) × (with_row m x w ≡ n) = only_is (is_known_start m start && is_free m x) (with_row m x w) n e in
    widens_twice m (with_row m x w) n (widens_row m x w (and_second (is_known_start m start) (is_free m x) o.0)) (widens_same (with_row m x w) n (sym o.1))
code_widens (assign p target v) m n e = kept_where (is_known_target m target v) m n e
code_widens (choice p v a b) m n e = kept_where (is_known_test m v && (is_some (places_behind a m) && has_else b m)) m n e
code_widens (return_ p) m n e = kept_where true m n e
code_widens (exit_ p) m n e = kept_where true m n e
code_widens (call p callee args) m n e = kept_where (can_drop callee m) m n e

-- the parameters of an action are variables
pub widens_params : (m : Places) (ps : List Param) → AreFree m ps → Widens m (with_params m ps)
widens_params m [] free = widens_same m m refl
widens_params m (p ∷ ps) free =
    widens_twice m (with_row m p.name (sound_width p.width)) (with_params m (p ∷ ps)) (widens_new m p.name (sound_width p.width) free.0) (widens_params (with_row m p.name (sound_width p.width)) ps free.1)

-- ---- headers

-- the number of a header is one of theirs
number_from : (hs : List (List (List ℕ))) (p : List (List ℕ)) (n : ℕ) (b : Bool) (o : Option ℕ) → ((k : ℕ) → o ≡ Some k → k < length hs) → (if b then Some 0 else option_map suc o) ≡ Some n → n < suc (length hs)
number_from hs p n true o h e = (let z : 0 ≡ n = cc e in omega (arith, z))
number_from hs p n false None h e = absurd (cc e)
number_from hs p n false (Some k) h e = (let z : suc k ≡ n = cc e in let lt : k < length hs = h k refl in omega (arith, z, lt))

pub number_below : (hs : List (List (List ℕ))) (p : List (List ℕ)) (n : ℕ) → header_number hs p ≡ Some n → n < length hs
number_below [] p n e = absurd (cc e)
number_below (x ∷ hs) p n e = number_from hs p n (same_path x p) (header_number hs p) (λ k h. number_below hs p k h) e

-- a field's place is one of a control
fields_there : (base m : Places) (n : ℕ) (p : List (List ℕ)) (fs : List Field) (i : ℕ) → Grows base m → FieldsAt base n p fs i → FieldsAt m n p fs i
fields_there base m n p [] i grows at = tt
fields_there base m n p (f ∷ fs) i grows at = (found_before base m grows (p ++ f.name ∷ []) (record { path = p ++ f.name ∷ []; slot = i; width = f.width; header = Some n }) at.0, fields_there base m n p fs (i + 1) grows at.1)

-- the slots of fields are below the next one
fields_below : (base : Places) (n : ℕ) (p : List (List ℕ)) (fs : List Field) (i d : ℕ) → IsLaid base → FieldsAt base n p fs i → d < length fs → i + d < base.next
fields_below base n p [] i d laid at lt = absurd (let z : d < 0 = lt in omega (arith, z))
fields_below base n p (f ∷ fs) i zero laid at lt =
    let first : i < base.next = laid.below (p ++ f.name ∷ []) (record { path = p ++ f.name ∷ []; slot = i; width = f.width; header = Some n }) at.0 in
    omega (arith, first)
fields_below base n p (f ∷ fs) i (suc d) laid at lt =
    let z : suc d < suc (length fs) = lt in
    let rest : i + 1 + d < base.next = fields_below base n p fs (i + 1) d laid at.1 (omega (arith, z)) in
    omega (arith, rest)

own_below : (base : Places) (n : ℕ) (p : List (List ℕ)) (fs : List Field) (first j : ℕ) → IsLaid base → FieldsAt base n p fs first → first ≤ j → j < first + length fs → j < base.next
own_below base n p fs first j laid at le lt =
    let below : first + (j - first) < base.next = fields_below base n p fs first (j - first) laid at (omega (arith, le, lt)) in
    omega (arith, le, below)

no_parent : (h : List (List ℕ)) → h ≢ [] → same_path h [] ≡ false
no_parent [] n = absurd (n refl)
no_parent (x ∷ h) n = refl

pub laid_out_there : (base m : Places) (n : ℕ) (p : List (List ℕ)) (h : HeaderSlots) → IsLaid base → AddsVariables base m → IsLaidOut base n p h → IsLaidOut m n p h
laid_out_there base m n p h laid adds at =
    let f : IsHeaderAt base n at.header h.first = at.fields in
    record {
      header = at.header;
      path = at.path;
      named = at.named;
      count = at.count;
      fields = record {
        number = subst (λ hs. header_number hs at.header.path ≡ Some n) (sym adds.grows.headers) f.number;
        widths = f.widths;
        fields = fields_there base m n at.header.path at.header.fields h.first adds.grows f.fields;
        room = subst (λ k. h.first + length at.header.fields ≤ k) (sym adds.grows.size) f.room;
        inside = λ q r e is. ⊎_elim (λ (o : place_at base.rows q ≡ Some r). f.inside q r o is) (λ (v : IsVariable base q r). absurd (let z : None ≡ Some n = sym v.header ∙ is in cc z)) (adds.variables q r e);
        own = λ q r e le lt. ⊎_elim (λ (o : place_at base.rows q ≡ Some r). f.own q r o le lt)
            (λ (v : IsVariable base q r). absurd (let b : r.slot < base.next = own_below base n at.header.path at.header.fields h.first r.slot laid f.fields le lt in let c : base.next ≤ r.slot = v.behind in omega (arith, b, c))) (adds.variables q r e);
        parents = λ q r e is. ⊎_elim (λ (o : place_at base.rows q ≡ Some r). f.parents q r o is) (λ (v : IsVariable base q r). absurd (let z : None ≡ Some n = sym v.header ∙ is in cc z)) (adds.variables q r e);
        others = λ q r e not_it. ⊎_elim (λ (o : place_at base.rows q ≡ Some r). f.others q r o not_it) (λ (v : IsVariable base q r). ap (same_path at.header.path) v.path ∙ no_parent at.header.path at.named) (adds.variables q r e);
      };
    }
