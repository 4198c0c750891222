-- Switches that are made of programs and their tables, one after the other.
use Rattle.std.proofs.Common.{◌≡◌, ℕ, zero, suc, ◌<◌, List, [], ◌∷◌, ◌++◌, length, map, get_or, Some, refl, sym, ap, ◌∙◌, subst, arith, append_assoc, ◌⊎◌, inl, inr}
use Rattle.std.specs.Prelude.{slice_get}
use Rattle.std.specs.List.{range_with_len}
use Rattle.std.proofs.lemmas.List.{map-append}
use Rattle.std.proofs.lemmas.List.FromFn.{length-map-range_with_len, get_or-map-range_with_len}
use Rattle.std.proofs.lemmas.Option.{slice_get_within, get_or_from_slice_get}
use Rattle.p4_tree.specs.Tree.{Program}
use Rattle.p4_meaning.specs.Parts.{parts_of}
use Rattle.p4_meaning.specs.Pass.{Registers, start_cells}
use Rattle.p4_machine.specs.Buffers.{Buffer, IsMadeFor}
use Rattle.p4_tables.specs.State.{Held}
use Rattle.p4_tables.specs.Programs.{IsStateOf}
use Rattle.path_runner.specs.Conditions.{AreFor}
use Rattle.path_runner.specs.Nets.{Switch}
use Rattle.loaded_tables.specs.Loading.{switch_before}
use Rattle.linked_net.specs.Switches.{switches_before, AreStatesOf, AreMadeFor}

-- ---- numbers

-- an item of a list that is made from numbers
pub record IsMadeOf {A : Type 0} (f : ℕ → A) (n k : ℕ) (x : A) : Type 0 where
  pub low : k < n
  pub is : f k ≡ x

pub made_of : {A : Type 0} (f : ℕ → A) (n k : ℕ) (x : A) → slice_get (map f (range_with_len 0 n)) k ≡ Some x → IsMadeOf f n k x
made_of f n k x here =
    let long = length-map-range_with_len f 0 n in
    let low : k < n = (let lt = slice_get_within (map f (range_with_len 0 n)) k x here in omega (arith, lt, long)) in
    record { low = low; is = sym (get_or-map-range_with_len f 0 n k k x low (omega arith)) ∙ get_or_from_slice_get (map f (range_with_len 0 n)) k x x here }

-- ---- lists of switches

-- the switch of a number
pub record IsSwitchAt (ps : List Program) (sts : List (List Held)) (k : ℕ) (x : Switch) : Type 0 where
  pub program : slice_get ps k ≡ Some x.program
  pub is : switch_before x.program (get_or sts k []) ≡ x

pub switch_at : (ps : List Program) (sts : List (List Held)) (k : ℕ) (x : Switch) → slice_get (switches_before ps sts) k ≡ Some x → IsSwitchAt ps sts k x
switch_at [] sts k x e = absurd (cc e)
switch_at (p ∷ ps) [] k x e = absurd (cc e)
switch_at (p ∷ ps) (st ∷ sts) zero x e = (let is : switch_before p st ≡ x = cc e in subst (IsSwitchAt (p ∷ ps) (st ∷ sts) zero) is (record { program = refl; is = refl }))
switch_at (p ∷ ps) (st ∷ sts) (suc k) x e = (let there = switch_at ps sts k x e in record { program = there.program; is = there.is })

pub programs_before : (ps : List Program) (sts : List (List Held)) → length sts ≡ length ps → map (λ (x : Switch). x.program) (switches_before ps sts) ≡ ps
programs_before [] sts e = refl
programs_before (p ∷ ps) [] e = absurd (omega (arith, e))
programs_before (p ∷ ps) (st ∷ sts) e = ap (λ (qs : List Program). p ∷ qs) (programs_before ps sts (omega (arith, e)))

pub as_many : (ps : List Program) (sts : List (List Held)) → AreStatesOf ps sts → length (switches_before ps sts) ≡ length ps
as_many [] sts s = refl
as_many (p ∷ ps) [] s = absurd s
as_many (p ∷ ps) (st ∷ sts) s = ap suc (as_many ps sts s.1)

pub states_of : (ps : List Program) (sts : List (List Held)) → length sts ≡ length ps → ((k : ℕ) (p : Program) → slice_get ps k ≡ Some p → IsStateOf p (get_or sts k [])) → AreStatesOf ps sts
states_of [] [] e h = tt
states_of [] (st ∷ sts) e h = absurd (omega (arith, e))
states_of (p ∷ ps) [] e h = absurd (omega (arith, e))
states_of (p ∷ ps) (st ∷ sts) e h = (h zero p refl, states_of ps sts (omega (arith, e)) (λ k q at. h (suc k) q at))

-- ---- buffers

pub buffers_for : (ps : List Program) (sts : List (List Held)) (bs : List Buffer) → AreStatesOf ps sts → AreMadeFor ps bs → AreFor (switches_before ps sts) bs
buffers_for [] [] [] s m = tt
buffers_for [] [] (b ∷ bs) s m = absurd m
buffers_for [] (st ∷ sts) bs s m = absurd s
buffers_for (p ∷ ps) [] bs s m = absurd s
buffers_for (p ∷ ps) (st ∷ sts) [] s m = absurd m
buffers_for (p ∷ ps) (st ∷ sts) (b ∷ bs) s m = (m.0, buffers_for ps sts bs s.1 m.1)

pub one_more : (ps : List Program) (bs : List Buffer) (p : Program) (b : Buffer) → AreMadeFor ps bs → IsMadeFor p b.needs → AreMadeFor (ps ++ p ∷ []) (bs ++ b ∷ [])
one_more [] [] p b m h = (h, tt)
one_more [] (c ∷ bs) p b m h = absurd m
one_more (q ∷ ps) [] p b m h = absurd m
one_more (q ∷ ps) (c ∷ bs) p b m h = (m.0, one_more ps bs p b m.1 h)

-- ---- switches that are made one by one

same_switch : (p q : Program) (t u : List Held) (c d : Registers) → p ≡ q → t ≡ u → c ≡ d → record { program = p; tables = t; cells = c } ≡ (let x : Switch = record { program = q; tables = u; cells = d } in x)
same_switch p q t u c d a b e = rw (a, b, e) refl

pub switch_is : (p q : Program) (t held : List Held) (c : Registers) → q ≡ p → t ≡ held → c ≡ start_cells (parts_of p).registers → record { program = q; tables = t; cells = c } ≡ switch_before p held
switch_is p q t held c program tables cells = same_switch q p t held c (start_cells (parts_of p).registers) program tables cells

pub one_made :
    {X : Type 0} (view : X → Switch) (made now : List X) (x : X) (p : Program) (st : List Held) (ps : List Program) (sts : List (List Held)) (all : List Switch) →
    now ≡ made ++ x ∷ [] → view x ≡ switch_before p st → map view made ++ switches_before (p ∷ ps) (st ∷ sts) ≡ all → map view now ++ switches_before ps sts ≡ all
one_made view made now x p st ps sts all n v h =
    ap (λ (xs : List _). map view xs ++ switches_before ps sts) n
    ∙ ap (λ (xs : List Switch). xs ++ switches_before ps sts) (map-append view made (x ∷ []))
    ∙ append_assoc (map view made) (view x ∷ []) (switches_before ps sts)
    ∙ ap (λ (y : Switch). map view made ++ y ∷ switches_before ps sts) v
    ∙ h

-- one of two lists is at its end, so there is no further one
pub none_left : (ps : List Program) (sts : List (List Held)) → (length ps ≡ 0) ⊎ (length sts ≡ 0) → switches_before ps sts ≡ []
none_left [] sts e = refl
none_left (p ∷ ps) [] e = refl
none_left (p ∷ ps) (st ∷ sts) (inl e) = absurd (omega (arith, e))
none_left (p ∷ ps) (st ∷ sts) (inr e) = absurd (omega (arith, e))
