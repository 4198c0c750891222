-- A state's lists in order are what the variables hold by their names.
use Rattle.std.proofs.Common.{◌≡◌, ℕ, ◌+◌, ◌≤◌, List, [], ◌∷◌, ◌++◌, Bool, true, false, cond, Option, Some, None, length, map, refl, sym, ap, ap₂, ◌∙◌, arith, subst, append_assoc, length-append}
use Rattle.std.specs.Prelude.{slice_get, is_some, MatchBool}
use Rattle.bit_values.specs.Bits.{Word}
use Rattle.bit_values.specs.BitLists.{number_bits}
use Rattle.bit_writer.specs.Bytes.{bytes_of}
use Rattle.lex_text.specs.Names.{same_text}
use Rattle.indus_tree.specs.Tree.{Shape, one, list, set, dict, Decl, Property}
use Rattle.indus_tree.specs.State.{Held, lookup, shape_width, shape_size}
use Rattle.indus_tree.specs.Hops.{same_kind, seat_from}
use Rattle.indus_tree.specs.Shapes.{IsHeld, IsTeleCount}
use Rattle.indus_tree.specs.declared.tree.DeclKind.{DeclKind}
use Rattle.indus_tree.specs.declared.tree.DeclKind.TheVariants.{Tele, Sensor, Header, Control}
use Rattle.indus_rules.specs.Rules.{IsWellTyped}
use Rattle.indus_types.specs.NameTable.{AreNew}
use Rattle.indus_types.proofs.NamesLemmas.{typed_new}
use Rattle.indus_values.specs.View.{Cells, cells_of, cells_at, cells_in, or_empty, seats, tele_of}
use Rattle.indus_values.specs.declared.state.TeleState.{TeleState}
use Rattle.indus_values.proofs.SeatLemmas.{same_text_decides}
use Rattle.tele_layout.specs.TeleDecls.{IsSize, IsTeleShape, IsTeleDecl, AreTele}
use Rattle.tele_layout.specs.Telemetry.{slot_bits, variables_bits, filled}
use Rattle.tele_layout.specs.Layouts.{slot_length, slots_bits, slot_of, slots_of, lists_of, FitsSlot, FitSlots, IsLayoutOf}
use Rattle.tele_layout.specs.Laws.{KeepsDeclared, IsLaidOut}
use Rattle.tele_layout.specs.declared.slots.Slot.{Slot}
use Rattle.tele_layout.specs.declared.slots.Layout.{Layout}
use Rattle.tele_layout.proofs.WritingLemmas.{is_more}
use Rattle.tele_layout.proofs.PlacesLemmas.{typed_tele}

-- ---- the place of a variable among those of its kind

-- what a first declaration says of the look-up of a name behind it
not_here : (b : Bool) (e : Decl) (rest : Option Decl) → is_some (cond b (Some e) rest) ≡ false → (b ≡ false) × (is_some rest ≡ false)
not_here true e rest h = absurd (let c : true ≡ false = h in cc)
not_here false e rest h = (refl, h)

seat_step : (a b c : Bool) (m s : ℕ) (rest : ℕ → Option ℕ) → a ≡ false → ((j : ℕ) → rest j ≡ Some (j + s)) → cond a (cond b (Some m) None) (rest (cond c (m + 1) m)) ≡ Some (m + cond c (s + 1) s)
seat_step true b c m s rest other h = absurd (let e : true ≡ false = other in cc)
seat_step false b true m s rest other h = h (m + 1) ∙ ap (λ n. Some n) (let e : m + 1 + s ≡ m + (s + 1) = omega arith in e)
seat_step false b false m s rest other h = h m

first_seat : (a b : Bool) (m : ℕ) (rest : Option ℕ) → a ≡ true → b ≡ true → cond a (cond b (Some m) None) rest ≡ Some (m + 0)
first_seat true true m rest x y = ap (λ n. Some n) (let e : m ≡ m + 0 = omega arith in e)
first_seat true false m rest x y = absurd (let e : false ≡ true = y in cc)
first_seat false b m rest x y = absurd (let e : false ≡ true = x in cc)

seat_behind : (k : DeclKind) (before : List Decl) (d : Decl) (ds : List Decl) (m : ℕ) → is_some (lookup before d.name) ≡ false → same_kind k d.kind ≡ true
    → seat_from m k (before ++ d ∷ ds) d.name ≡ Some (m + seats k before)
seat_behind k [] d ds m new is = first_seat (same_text d.name d.name) (same_kind k d.kind) m (seat_from (cond (same_kind k d.kind) (m + 1) m) k ds d.name) ((same_text_decides d.name d.name).1 refl) is
seat_behind k (e ∷ before) d ds m new is =
    let h = not_here (same_text e.name d.name) e (lookup before d.name) new in
    seat_step (same_text e.name d.name) (same_kind k e.kind) (same_kind k e.kind) m (seats k before) (λ j. seat_from j k (before ++ d ∷ ds) d.name) h.0
    (λ j. seat_behind k before d ds j h.1 is)

seats_more : (b : Bool) (n m s : ℕ) → m ≡ n + s → cond b (m + 1) m ≡ cond b (n + 1) n + s
seats_more true n m s e = omega arith
seats_more false n m s e = e

seats-append : (k : DeclKind) (xs ys : List Decl) → seats k (xs ++ ys) ≡ seats k xs + seats k ys
seats-append k [] ys = omega arith
seats-append k (x ∷ xs) ys = seats_more (same_kind k x.kind) (seats k xs) (seats k (xs ++ ys)) (seats k ys) (seats-append k xs ys)

-- ---- lists in order of declaration

-- the lists of the variables that travel, from what they hold by their names
abbrev pub lists_by : Held → List Decl → List (List Word)
lists_by h [] = []
lists_by h (d ∷ ds) = cond (same_kind Tele d.kind) (h d.name ∷ lists_by h ds) (lists_by h ds)

cell_behind : (pre : List Cells) (l : Cells) (ls : List Cells) → slice_get (pre ++ l ∷ ls) (length pre) ≡ Some l
cell_behind [] l ls = refl
cell_behind (p ∷ pre) l ls = cell_behind pre l ls

no_lists : (ls : List Cells) → length ls ≡ 0 → [] ≡ map cells_of ls
no_lists [] e = refl
no_lists (l ∷ ls) e = absurd (omega arith)

-- the declarations and lists before are passed
module _ (all : List Decl) (cells : List Cells) where
  here : (before : List Decl) (d : Decl) (ds : List Decl) (pre : List Cells) (l : Cells) (ls : List Cells) → all ≡ before ++ d ∷ ds → cells ≡ pre ++ l ∷ ls → length pre ≡ seats Tele before
      → is_some (lookup before d.name) ≡ false → same_kind Tele d.kind ≡ true → cells_in Tele all cells d.name ≡ l.items
  here before d ds pre l ls ea ec count new is =
      let place : seat_from 0 Tele all d.name ≡ Some (length pre) =
      ap (λ (xs : List Decl). seat_from 0 Tele xs d.name) ea ∙ seat_behind Tele before d ds 0 new is ∙ ap (λ n. Some n) (let e : 0 + seats Tele before ≡ length pre = omega arith in e) in
      ap (cells_at cells) place ∙ ap or_empty (ap (λ (xs : List Cells). slice_get xs (length pre)) ec ∙ cell_behind pre l ls)

  step : (b : Bool) (before : List Decl) (d : Decl) (ds : List Decl) (pre ls : List Cells) → same_kind Tele d.kind ≡ b → all ≡ before ++ d ∷ ds → cells ≡ pre ++ ls
      → is_some (lookup before d.name) ≡ false → length pre ≡ seats Tele before → length ls ≡ cond b (seats Tele ds + 1) (seats Tele ds)
      → ((xs ys : List Cells) → cells ≡ xs ++ ys → length xs ≡ seats Tele (before ++ d ∷ []) → length ys ≡ seats Tele ds → lists_by (cells_in Tele all cells) ds ≡ map cells_of ys)
      → cond b (cells_in Tele all cells d.name ∷ lists_by (cells_in Tele all cells) ds) (lists_by (cells_in Tele all cells) ds) ≡ map cells_of ls
  step true before d ds pre [] is ea ec new count n h = absurd (omega arith)
  step true before d ds pre (l ∷ ls) is ea ec new count n h =
      let more : cond (same_kind Tele d.kind) (0 + 1) 0 ≡ 1 = ap (λ b. cond b (0 + 1) 0) is in
      let longer : length (pre ++ l ∷ []) ≡ seats Tele (before ++ d ∷ []) = omega (arith, count, length-append pre (l ∷ []), seats-append Tele before (d ∷ []), more) in
      ap₂ (λ (x : List Word) (xs : List (List Word)). x ∷ xs) (here before d ds pre l ls ea ec count new is)
      (h (pre ++ l ∷ []) ls (ec ∙ sym (append_assoc pre (l ∷ []) ls)) longer (omega arith))
  step false before d ds pre ls is ea ec new count n h =
      let more : cond (same_kind Tele d.kind) (0 + 1) 0 ≡ 0 = ap (λ b. cond b (0 + 1) 0) is in
      h pre ls ec (omega (arith, count, seats-append Tele before (d ∷ []), more)) n

  in_order : (before ds : List Decl) (pre ls : List Cells) → all ≡ before ++ ds → cells ≡ pre ++ ls → AreNew before ds → length pre ≡ seats Tele before → length ls ≡ seats Tele ds
      → lists_by (cells_in Tele all cells) ds ≡ map cells_of ls
  in_order before [] pre ls ea ec new count n = no_lists ls n
  in_order before (d ∷ ds) pre ls ea ec new count n =
      step (same_kind Tele d.kind) before d ds pre ls refl ea ec new.0 count n
      (λ xs ys e c m. in_order (before ++ d ∷ []) ds xs ys (ea ∙ sym (append_assoc before (d ∷ []) ds)) e new.1 c m)

pub lists_are : (ds : List Decl) (t : TeleState) → AreNew [] ds → length t.items.items ≡ seats Tele ds → lists_by (tele_of ds t) ds ≡ lists_of t
lists_are ds t new n = in_order ds t.items.items [] ds [] t.items.items refl refl new refl n

-- ---- their bits

bits_at : (b : Bool) (s : Slot) (ss ts : List Slot) (vs : List Word) (t : List (List Word)) (rest : List ℕ) → slots_bits ss t ≡ rest → slots_bits ts t ≡ rest
    → slots_bits (cond b (s ∷ ss) ts) (cond b (vs ∷ t) t) ≡ cond b (slot_bits s.width s.count vs) [] ++ rest
bits_at true s ss ts vs t rest e f = ap (λ (l : List ℕ). slot_bits s.width s.count vs ++ l) e
bits_at false s ss ts vs t rest e f = f

pub same_bits : (h : Held) (number at : ℕ) (ds : List Decl) → slots_bits (slots_of number at ds) (lists_by h ds) ≡ variables_bits ds h
same_bits h number at [] = refl
same_bits h number at (d ∷ ds) =
    let size : ℕ = slot_length (shape_width d.shape) (shape_size d.shape) in
    bits_at (same_kind Tele d.kind) (slot_of number at d.shape) (slots_of (number + 1) (at + size) ds) (slots_of (number + 1) at ds) (h d.name) (lists_by h ds) (variables_bits ds h)
    (same_bits h (number + 1) (at + size) ds) (same_bits h (number + 1) at ds)

-- ---- and their values

fits_shape : (number at : ℕ) (s : Shape) (vs : List Word) → IsTeleShape s → IsHeld IsTeleCount s vs → FitsSlot (slot_of number at s) vs
fits_shape number at (one t) vs h k = record { used = k.count; words = k.words }
fits_shape number at (list t n) vs h k =
    let size : IsSize n = h.1 in
    let some : n ≡ 0 → ⊥ = λ e. absurd (omega (arith, size.least)) in
    let P : Bool → Type 0 = λ b. MatchBool b (length vs ≡ 1) (length vs ≤ n) in
    record { used = subst P (sym (is_more n some)) k.count; words = k.words }
fits_shape number at (set ks) vs h k = absurd h
fits_shape number at (dict ks t) vs h k = absurd h

fit_at : (k : DeclKind) (s : Shape) (number at : ℕ) (ss ts : List Slot) (vs : List Word) (t : List (List Word)) → IsTeleDecl k s → (k ≡ Tele → IsHeld IsTeleCount s vs) → FitSlots ss t → FitSlots ts t
    → FitSlots (cond (same_kind Tele k) (slot_of number at s ∷ ss) ts) (cond (same_kind Tele k) (vs ∷ t) t)
fit_at Tele s number at ss ts vs t h held a b = (fits_shape number at s vs h (held refl), a)
fit_at Sensor s number at ss ts vs t h held a b = b
fit_at Header s number at ss ts vs t h held a b = b
fit_at Control s number at ss ts vs t h held a b = b

-- a declaration is found by its name, behind declarations of other names
found_at : (b : Bool) (e : Decl) (rest : Option Decl) (d : Decl) → b ≡ false → rest ≡ Some d → cond b (Some e) rest ≡ Some d
found_at true e rest d other h = absurd (let c : true ≡ false = other in cc)
found_at false e rest d other h = h

found_first : (b : Bool) (d : Decl) (rest : Option Decl) → b ≡ true → cond b (Some d) rest ≡ Some d
found_first true d rest h = refl
found_first false d rest h = absurd (let c : false ≡ true = h in cc)

found : (before : List Decl) (d : Decl) (ds : List Decl) → is_some (lookup before d.name) ≡ false → lookup (before ++ d ∷ ds) d.name ≡ Some d
found [] d ds new = found_first (same_text d.name d.name) d (lookup ds d.name) ((same_text_decides d.name d.name).1 refl)
found (e ∷ before) d ds new =
    let h = not_here (same_text e.name d.name) e (lookup before d.name) new in
    found_at (same_text e.name d.name) e (lookup (before ++ d ∷ ds) d.name) d h.0 (found before d ds h.1)

pub fit : (all : List Decl) (h : Held) → ((x : List ℕ) (d : Decl) → lookup all x ≡ Some d → d.kind ≡ Tele → IsHeld IsTeleCount d.shape (h x))
    → (number at : ℕ) (before ds : List Decl) → all ≡ before ++ ds → AreNew before ds → AreTele ds → FitSlots (slots_of number at ds) (lists_by h ds)
fit all h held number at before [] e new tele = tt
fit all h held number at before (d ∷ ds) e new tele =
    let size : ℕ = slot_length (shape_width d.shape) (shape_size d.shape) in
    let behind : all ≡ (before ++ d ∷ []) ++ ds = e ∙ sym (append_assoc before (d ∷ []) ds) in
    fit_at d.kind d.shape number at (slots_of (number + 1) (at + size) ds) (slots_of (number + 1) at ds) (h d.name) (lists_by h ds) tele.0
    (held d.name d (ap (λ (xs : List Decl). lookup xs d.name) e ∙ found before d ds new.0))
    (fit all h held (number + 1) (at + size) (before ++ d ∷ []) ds behind new.1 tele.1)
    (fit all h held (number + 1) at (before ++ d ∷ []) ds behind new.1 tele.1)

-- ---- both

pub laid_out : (p : Property) (l : Layout) (t : TeleState) → IsWellTyped p → IsLayoutOf p l → KeepsDeclared p.decls t → IsLaidOut p l t
laid_out p l t typed is keeps =
    let h : Held = tele_of p.decls t in
    let new = typed_new p typed in
    let lists : lists_by h p.decls ≡ lists_of t = lists_are p.decls t new keeps.lists in
    let P : List (List Word) → Type 0 = FitSlots l.slots.items in
    let Q : List Slot → Type 0 = λ ss. FitSlots ss (lists_by h p.decls) in
    record {
      fits = subst P lists (subst Q (sym is.slots) (fit p.decls h keeps.held 0 8 [] p.decls refl new (typed_tele p typed)));
      bytes =
          ap₂ (λ n (x : List ℕ). bytes_of (filled (number_bits 8 n ++ x))) is.first
          (ap₂ slots_bits is.slots (sym lists) ∙ same_bits h 0 8 p.decls);
    }
