-- The tables of switches are loaded one after the other.
use Rattle.std.proofs.Common.{◌≡◌, ℕ, ◌+◌, ◌<◌, ◌≤◌, List, [], ◌∷◌, ◌++◌, length, map, take, get_or, Some, Result, Ok, Err, IfOk, inl, inr, refl, sym, ap, ◌∙◌, subst, arith}
use Rattle.std.specs.Prelude.{slice_get}
use Rattle.std.specs.Option.{option_map}
use Rattle.std.proofs.Math.Seq.{get_or-append_seam}
use Rattle.std.proofs.lemmas.Bool.Decides.{eqb_tells}
use Rattle.std.proofs.lemmas.List.{length-append, length-map, get_or_append_left}
use Rattle.std.proofs.lemmas.Option.{slice_get-map, slice_get_read, get_or_from_slice_get}
use Rattle.p4_tree.specs.Tree.{Program}
use Rattle.p4_meaning.specs.Parts.{parts_of}
use Rattle.p4_tables.specs.State.{Held, entries_in}
use Rattle.p4_tables.specs.Named.{tables_in}
use Rattle.p4_tables.specs.Programs.{IsStateOf}
use Rattle.indus_tree.specs.Tree.{Decl}
use Rattle.indus_tree.specs.State.{Contents}
use Rattle.indus_tree.specs.declared.tree.DeclKind.TheVariants.{Control}
use Rattle.indus_values.specs.View.{seats, contents_of, or_no_members, contents_from}
use Rattle.indus_values.specs.declared.state.ControlValue.{ControlValue}
use Rattle.control_maps.specs.Numbers.{Numbered, IsMapOf}
use Rattle.path_runner.specs.Starts.{IsLoaded}
use Rattle.loaded_tables.specs.Rows.{Row, numbered_rows}
use Rattle.loaded_tables.specs.Loading.{keys_in, switch_before}
use Rattle.read_contents.specs.Fits.{contents_at}
use Rattle.linked_net.specs.Loading.{CanLoad, CanLoadAll, AreLoadedWith, AreLoadedTo}

-- contents by the program's values are those that these stand for
pub same_contents : (ds : List Decl) (cs : List ControlValue) → contents_from ds cs ≡ contents_at ds (map contents_of cs)
same_contents ds cs = λ i v. or_no_members (sym (slice_get-map contents_of cs (seats Control (take v ds))) i)

module _ (given : Program) (ds : List Decl) (rows : List Row) where
  -- ---- one switch

  module _ {A E : Type 0} (tables : A → List Held) (numbers : A → List Numbered) (p : Program) (held : List Held) (cs : List Contents) where
    -- what an answer has
    pub are_loaded :
        (c : ℕ → Contents) → c ≡ contents_at ds cs → (r : Result A E) → IfOk r (λ a. IsStateOf p (tables a)) → IfOk r (λ a. numbers a ≡ numbered_rows p ds rows) →
        IfOk r (λ a. IsMapOf (parts_of p) (tables a) (numbers a)) → IfOk r (λ a. IsLoaded (switch_before p (tables a)) (numbers a) (tables_in (parts_of given) held) c) →
        IfOk r (λ a. entries_in (tables a) ≤ entries_in held + keys_in (numbered_rows p ds rows) c) → IfOk r (λ a. AreLoadedWith given ds rows p held cs (tables a) (numbers a))
    are_loaded c same (Err e) state is mapped loaded few = tt
    are_loaded c same (Ok a) state is mapped loaded few =
        record {
          state = state;
          map = is;
          mapped = mapped;
          loaded = subst (λ (d : ℕ → Contents). IsLoaded (switch_before p (tables a)) (numbers a) (tables_in (parts_of given) held) d) same loaded;
          entries = subst (λ (ns : List Numbered). entries_in (tables a) ≤ entries_in held + keys_in ns (contents_at ds cs)) (sym is)
              (subst (λ (d : ℕ → Contents). entries_in (tables a) ≤ entries_in held + keys_in (numbered_rows p ds rows) d) same few);
        }

  -- ---- all switches

  module _ (ps : List Program) (helds : List (List Held)) (css : List (List Contents)) where
    pub none_loaded : AreLoadedTo given ds rows ps helds css 0 [] []
    none_loaded = record { tables = refl; maps = refl; each = λ k p lt at. absurd (omega (arith, lt)) }

    module _
        (i : ℕ) (p : Program) (sts now : List (List Held)) (maps after : List (List Numbered)) (st : List Held) (ns : List Numbered)
        (here : slice_get ps i ≡ Some p) (is : AreLoadedWith given ds rows p (get_or helds i []) (get_or css i []) st ns)
        (more : now ≡ sts ++ st ∷ []) (mapped : after ≡ maps ++ ns ∷ []) (so_far : AreLoadedTo given ds rows ps helds css i sts maps)
      where
        abbrev With : ℕ → Program → List Held → List Numbered → Type 0
        With k q s n = AreLoadedWith given ds rows q (get_or helds k []) (get_or css k []) s n

        -- the last one of each list
        last_tables : get_or now i [] ≡ st
        last_tables = ap (λ (l : List (List Held)). get_or l i []) more ∙ (ap (λ (n : ℕ). get_or (sts ++ st ∷ []) n []) (sym so_far.tables) ∙ get_or-append_seam sts st [] [])

        last_map : get_or after i [] ≡ ns
        last_map = ap (λ (l : List (List Numbered)). get_or l i []) mapped ∙ (ap (λ (n : ℕ). get_or (maps ++ ns ∷ []) n []) (sym so_far.maps) ∙ get_or-append_seam maps ns [] [])

        at_last : With i p (get_or now i []) (get_or after i [])
        at_last = subst (λ (s : List Held). With i p s (get_or after i [])) (sym last_tables) (subst (λ (n : List Numbered). With i p st n) (sym last_map) is)

        -- those before it
        at_first : (k : ℕ) (q : Program) → k < i → slice_get ps k ≡ Some q → With k q (get_or now k []) (get_or after k [])
        at_first k q lt at =
            (let tables : get_or now k [] ≡ get_or sts k [] = ap (λ (l : List (List Held)). get_or l k []) more ∙ get_or_append_left sts (st ∷ []) [] k (omega (arith, lt, so_far.tables)) in
            let numbers : get_or after k [] ≡ get_or maps k [] = ap (λ (l : List (List Numbered)). get_or l k []) mapped ∙ get_or_append_left maps (ns ∷ []) [] k (omega (arith, lt, so_far.maps)) in
            subst (λ (s : List Held). With k q s (get_or after k [])) (sym tables) (subst (λ (n : List Numbered). With k q (get_or sts k []) n) (sym numbers) (so_far.each k q lt at)))

        each_of : (k : ℕ) (q : Program) → k < i + 1 → slice_get ps k ≡ Some q → With k q (get_or now k []) (get_or after k [])
        each_of k q lt at =
            elim (eqb_tells k i) [
              | inl h ↦ (let there : slice_get ps i ≡ Some q = ap (slice_get ps) (sym h.1) ∙ at in
                  let same : p ≡ q = cc (here, there) in
                  subst (λ (n : ℕ). With n q (get_or now n []) (get_or after n [])) (sym h.1) (subst (λ (r : Program). With i r (get_or now i []) (get_or after i [])) same at_last))
              | inr h ↦ at_first k q (omega (arith, lt, h.1)) at
            ]

        pub one_more : AreLoadedTo given ds rows ps helds css (i + 1) now after
        one_more =
            record {
              tables = (let long = ap (λ (l : List (List Held)). length l) more in omega (arith, long, length-append sts (st ∷ []), so_far.tables));
              maps = (let long = ap (λ (l : List (List Numbered)). length l) mapped in omega (arith, long, length-append maps (ns ∷ []), so_far.maps));
              each = each_of;
            }

-- ---- one switch of all

-- programs, tables and contents as the program has them, and those of one switch
module _
    {A B : Type 0} (given : Program) (ds : List Decl) (rows : List Row) (v : A → Program) (w : B → List Contents) (xs : List A) (helds : List (List Held)) (ys : List B)
    (can : CanLoadAll given ds rows (map v xs) helds (map w ys)) (i : ℕ) (x : A) (held : List Held) (y : B) (cs : List Contents)
    (low : i < length xs) (one : x ≡ get_or xs i x) (other : held ≡ get_or helds i held) (third : y ≡ get_or ys i y) (same : cs ≡ w y)
  where
    program_here : slice_get (map v xs) i ≡ Some (v x)
    program_here = slice_get-map v xs i ∙ ap (option_map v) (slice_get_read xs (length xs) i x refl low one)

    held_here : get_or helds i [] ≡ held
    held_here = get_or_from_slice_get helds i held [] (slice_get_read helds (length helds) i held refl (omega (arith, low, length-map xs v, can.tables)) other)

    contents_here : get_or (map w ys) i [] ≡ cs
    contents_here =
        get_or_from_slice_get (map w ys) i (w y) []
        (slice_get-map w ys i ∙ ap (option_map w) (slice_get_read ys (length ys) i y refl (omega (arith, low, length-map xs v, length-map ys w, can.contents)) third))
        ∙ sym same

    pub can_here : CanLoad given ds rows (v x) held cs
    can_here =
        subst (λ (h : List Held). CanLoad given ds rows (v x) h cs) held_here
        (subst (λ (l : List Contents). CanLoad given ds rows (v x) (get_or helds i []) l) contents_here (can.each i (v x) program_here))

    pub loaded_here :
        (sts now : List (List Held)) (maps after : List (List Numbered)) (st : List Held) (ns : List Numbered) → AreLoadedWith given ds rows (v x) held cs st ns →
        now ≡ sts ++ st ∷ [] → after ≡ maps ++ ns ∷ [] → AreLoadedTo given ds rows (map v xs) helds (map w ys) i sts maps →
        AreLoadedTo given ds rows (map v xs) helds (map w ys) (i + 1) now after
    loaded_here sts now maps after st ns with more mapped so_far =
        one_more given ds rows (map v xs) helds (map w ys) i (v x) sts now maps after st ns program_here
        (subst (λ (h : List Held). AreLoadedWith given ds rows (v x) h (get_or (map w ys) i []) st ns) (sym held_here)
        (subst (λ (l : List Contents). AreLoadedWith given ds rows (v x) held l st ns) (sym contents_here) with))
        more mapped so_far

-- the same for lists that are equal
pub moved :
    {A B D : Type 0} (given : Program) (rows : List Row) (v : A → Program) (w : B → List Contents) (e : D → Decl) (xs xs' : List A) (helds helds' : List (List Held)) (ys ys' : List B) (ds ds' : List D)
    (sts : List (List Held)) (maps : List (List Numbered)) → xs ≡ xs' → helds ≡ helds' → ys ≡ ys' → ds ≡ ds' → AreLoadedTo given (map e ds) rows (map v xs) helds (map w ys) (length xs) sts maps
    → AreLoadedTo given (map e ds') rows (map v xs') helds' (map w ys') (length (map v xs')) sts maps
moved given rows v w e xs xs' helds helds' ys ys' ds ds' sts maps a b c d h =
    subst (λ (n : ℕ). AreLoadedTo given (map e ds') rows (map v xs') helds' (map w ys') n sts maps) (sym (length-map xs' v))
    (subst (λ (l : List _). AreLoadedTo given (map e ds') rows (map v l) helds' (map w ys') (length l) sts maps) a
    (subst (λ (l : List (List Held)). AreLoadedTo given (map e ds') rows (map v xs) l (map w ys') (length xs) sts maps) b
    (subst (λ (l : List _). AreLoadedTo given (map e ds') rows (map v xs) helds (map w l) (length xs) sts maps) c
    (subst (λ (l : List _). AreLoadedTo given (map e l) rows (map v xs) helds (map w ys) (length xs) sts maps) d h))))
