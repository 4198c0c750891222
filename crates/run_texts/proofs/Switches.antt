-- Switches with their programs, one after the other.
use Rattle.std.proofs.Common.{◌≡◌, ℕ, ◌+◌, ◌<◌, ◌≤◌, List, [], ◌∷◌, ◌++◌, length, map, drop, get_or, Some, ap, ap₂, sym, ◌∙◌, arith, append_assoc}
use Rattle.std.specs.Prelude.{slice_get}
use Rattle.std.specs.Option.{option_map}
use Rattle.std.proofs.lemmas.List.{length-map}
use Rattle.std.proofs.lemmas.Option.{slice_get-map}
use Rattle.std.proofs.lemmas.Grind.{flat_map-append}
use Rattle.p4_tree.specs.Tree.{Program}
use Rattle.p4_meaning.specs.Pass.{Kept}
use Rattle.path_runner.specs.Nets.{Switch}
use Rattle.report_writer.specs.Texts.{Cell, cell_line, cells_of}
use Rattle.register_texts.proofs.Rows.{drop_at, drop_past, view_at}
use Rattle.run_texts.specs.Registers.{programs_in, switch_cells, switches_cells, rejected_at, rejected_from}

module _ {A B : Type 0} (v : A → Switch) (w : B → Program) (xs : List A) (ys : List B) (run : programs_in (map v xs) ≡ map w ys) where
  -- there are as many programs as switches
  pub as_many : length ys ≡ length xs
  as_many =
      sym (length-map ys w) ∙ ap (λ (ps : List Program). length ps) (sym run)
      ∙ length-map (map v xs) (λ (x : Switch). x.program) ∙ length-map xs v

  -- the switch of a place runs the program of the place
  pub runs_at : (i : ℕ) (x : A) (y : B) → i < length xs → x ≡ get_or xs i x → y ≡ get_or ys i y → (v x).program ≡ w y
  runs_at i x y lt at there =
      let one : slice_get (programs_in (map v xs)) i ≡ Some (v x).program = slice_get-map (λ (x : Switch). x.program) (map v xs) i ∙ ap (option_map (λ (x : Switch). x.program)) (view_at v xs i x lt at) in
      let two : slice_get (map w ys) i ≡ Some (w y) = view_at w ys i y (omega (arith, lt, as_many)) there in
      let both : Some (v x).program ≡ Some (w y) = sym one ∙ ap (λ (ps : List Program). slice_get ps i) run ∙ two in
      cc both

-- ---- cells

-- the cells of three groups
pub three_groups : (one two first second text : List ℕ) (a b c : List Cell) → first ≡ cells_of a → one ≡ cells_of b → two ≡ cells_of c → second ≡ first ++ one → text ≡ second ++ two → text ≡ cells_of (a ++ (b ++ c))
three_groups one two first second text a b c e f g h k =
    k ∙ ap (λ s. s ++ two) (h ∙ ap₂ (λ s t. s ++ t) e f ∙ sym (flat_map-append cell_line a b))
    ∙ ap (λ s. cells_of (a ++ b) ++ s) g
    ∙ sym (flat_map-append cell_line (a ++ b) c)
    ∙ ap cells_of (append_assoc a b c)

module _ (qs : List Program) (keeps : ℕ → Kept) (i : ℕ) where
  -- the cells of the switch of a place, and of those behind it
  pub switch_next : (ns : List (List ℕ)) (q : Program) (n : List ℕ) → slice_get qs i ≡ Some q → slice_get ns i ≡ Some n → switches_cells (drop i qs) keeps i (drop i ns) ≡ switch_cells q n (keeps i).registers ++ switches_cells (drop (i + 1) qs) keeps (i + 1) (drop (i + 1) ns)
  switch_next ns q n e f = ap₂ (λ (ps : List Program) (ms : List (List ℕ)). switches_cells ps keeps i ms) (drop_at qs i q e) (drop_at ns i n f)

  pub switches_past : (ns : List (List ℕ)) → length qs ≤ i → switches_cells (drop i qs) keeps i (drop i ns) ≡ []
  switches_past ns le = ap (λ (ps : List Program). switches_cells ps keeps i (drop i ns)) (drop_past qs i le)

  -- what it counts as rejected, and what those behind it count
  pub rejected_next : (q : Program) (sum one total : ℕ) → slice_get qs i ≡ Some q → one ≡ rejected_at q (keeps i) → sum + rejected_from (drop i qs) keeps i ≡ total → sum + one + rejected_from (drop (i + 1) qs) keeps (i + 1) ≡ total
  rejected_next q sum one total e is so_far =
      let next : rejected_from (drop i qs) keeps i ≡ rejected_at q (keeps i) + rejected_from (drop (i + 1) qs) keeps (i + 1) = ap (λ (ps : List Program). rejected_from ps keeps i) (drop_at qs i q e) in
      omega (arith, next, is, so_far)

  pub rejected_past : (sum total : ℕ) → length qs ≤ i → sum + rejected_from (drop i qs) keeps i ≡ total → sum ≡ total
  rejected_past sum total le so_far =
      let none : rejected_from (drop i qs) keeps i ≡ 0 = ap (λ (ps : List Program). rejected_from ps keeps i) (drop_past qs i le) in
      omega (arith, none, so_far)
