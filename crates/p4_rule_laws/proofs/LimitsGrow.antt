-- What is counted adds up, and rests on what names stand for.
use Rattle.std.proofs.Common.{◌≡◌, ℕ, ◌+◌, ◌/◌, min, List, [], ◌∷◌, ◌++◌, Bool, true, false, cond, ◌||◌, refl, sym, ap, ◌∙◌, arith}
use Rattle.std.proofs.lemmas.Slice.Eq.{bytes_eq-Decides}
use Rattle.lex_text.specs.Names.{same_text}
use Rattle.p4_tree.specs.Tree.{Local, Control, Top, constant, typedef, header_type, struct_type, register, parser, control}
use Rattle.p4_tree.specs.declared.statement.PTy.{PTy}
use Rattle.p4_meaning.specs.Parts.{struct_fields}
use Rattle.p4_scopes.specs.Scopes.{Scope, thing_in, add_up}
use Rattle.p4_scopes.specs.Uses.{header_bits}
use Rattle.p4_statement_rules.specs.declared.rule.Part.{Part}
use Rattle.p4_statement_rules.specs.declared.rule.Part.TheVariants as place
use Rattle.p4_declaration_rules.specs.Controls.{in_control, part_in, after_top, after_tops, most_of_part, most_of_top, most_of_tops}
use Rattle.p4_rules.specs.Limits.{fields_bytes, add_cells, local_cells, locals_cells, top_cells, tops_cells}
use Rattle.p4_rule_laws.specs.Old.{Names, Alike, OldFields}
use Rattle.p4_rule_laws.specs.OldPrograms.{OldControl, OldTops, OldTop}
use Rattle.p4_rule_laws.specs.Growth.{More, with_more, is_struct_type, has_struct, NewInFront, TopsGrow, no_top, same_top, new_top, wider_struct, other_states, other_control}
use Rattle.p4_rule_laws.proofs.AlikeScopes.{thing_alike}
use Rattle.p4_rule_laws.proofs.AlikeStmts.{most_alike}
use Rattle.p4_rule_laws.proofs.AlikePrograms.{in_control_alike, after_top_alike}
use Rattle.p4_rule_laws.proofs.RolesGrow.{struct_same, struct_passed, structs_behind}

-- ---- sums that stop

stops : (m a b c : ℕ) → min (min (a + b) m + c) m ≡ min (a + min (b + c) m) m
stops m a b c = omega arith

none_first : (m a b : ℕ) → min (0 + min (a + b) m) m ≡ min (a + b) m
none_first m a b = omega arith

none_at_all : (m : ℕ) → min (0 + 0) m ≡ 0
none_at_all m = omega arith

-- ---- bytes

bytes_within : (s : Scope) (b : List (PTy × List ℕ)) → add_up 0 (fields_bytes s b) ≡ fields_bytes s b
bytes_within s [] = none_at_all 4294967295
bytes_within s (f ∷ b) = none_first 4294967295 (header_bits (thing_in s f.0) / 8) (fields_bytes s b)

pub bytes_add : (s : Scope) (a b : List (PTy × List ℕ)) → fields_bytes s (a ++ b) ≡ add_up (fields_bytes s a) (fields_bytes s b)
bytes_add s [] b = sym (bytes_within s b)
bytes_add s (f ∷ a) b = ap (add_up (header_bits (thing_in s f.0) / 8)) (bytes_add s a b) ∙ sym (stops 4294967295 (header_bits (thing_in s f.0) / 8) (fields_bytes s a) (fields_bytes s b))

pub bytes_alike : (old : Names) (s t : Scope) → Alike old s t → (fs : List (PTy × List ℕ)) → OldFields old fs → fields_bytes s fs ≡ fields_bytes t fs
bytes_alike old s t a [] o = refl
bytes_alike old s t a (f ∷ fs) o = let e = thing_alike old s t a f.0 o.0 in let g = bytes_alike old s t a fs o.2 in cc

-- ---- cells

local_cells_within : (b : List Local) → add_cells 0 (locals_cells b) ≡ locals_cells b
local_cells_within [] = none_at_all 18446744073709551615
local_cells_within (l ∷ b) = none_first 18446744073709551615 (local_cells l) (locals_cells b)

pub local_cells_add : (a b : List Local) → locals_cells (a ++ b) ≡ add_cells (locals_cells a) (locals_cells b)
local_cells_add [] b = sym (local_cells_within b)
local_cells_add (l ∷ a) b = ap (add_cells (local_cells l)) (local_cells_add a b) ∙ sym (stops 18446744073709551615 (local_cells l) (locals_cells a) (locals_cells b))

cells_within : (b : List Top) → add_cells 0 (tops_cells b) ≡ tops_cells b
cells_within [] = none_at_all 18446744073709551615
cells_within (y ∷ b) = none_first 18446744073709551615 (top_cells y) (tops_cells b)

pub cells_add : (a b : List Top) → tops_cells (a ++ b) ≡ add_cells (tops_cells a) (tops_cells b)
cells_add [] b = sym (cells_within b)
cells_add (y ∷ a) b = ap (add_cells (top_cells y)) (cells_add a b) ∙ sym (stops 18446744073709551615 (top_cells y) (tops_cells a) (tops_cells b))

-- ---- digests

digests_within : (main : List (List ℕ)) (s : Scope) (b : List Top) → add_up 0 (most_of_tops main s b) ≡ most_of_tops main s b
digests_within main s [] = none_at_all 4294967295
digests_within main s (y ∷ b) = none_first 4294967295 (most_of_top main s y) (most_of_tops main (after_top s y) b)

pub digests_add : (main : List (List ℕ)) (s : Scope) (a b : List Top) → most_of_tops main s (a ++ b) ≡ add_up (most_of_tops main s a) (most_of_tops main (after_tops s a) b)
digests_add main s [] b = sym (digests_within main s b)
digests_add main s (y ∷ a) b =
    ap (add_up (most_of_top main s y)) (digests_add main (after_top s y) a b)
    ∙ sym (stops 4294967295 (most_of_top main s y) (most_of_tops main (after_top s y) a) (most_of_tops main (after_tops (after_top s y) a) b))

part_alike : (old : Names) (s t : Scope) → Alike old s t → (h : Part) (c : Control) → OldControl old c → most_of_part h s c ≡ most_of_part h t c
part_alike old s t a place.Apply c o = most_alike old (in_control s c) (in_control t c) (in_control_alike old s t a c o) c.apply o.apply
part_alike old s t a place.State c o = refl
part_alike old s t a place.Verify c o = refl
part_alike old s t a place.Action c o = refl
part_alike old s t a place.Compute c o = refl
part_alike old s t a place.Deparser c o = refl
part_alike old s t a place.Other c o = refl

top_digests_alike : (old : Names) (s t : Scope) → Alike old s t → (main : List (List ℕ)) (y : Top) → OldTop old y → most_of_top main s y ≡ most_of_top main t y
top_digests_alike old s t' a main (constant p t n e) o = refl
top_digests_alike old s t' a main (typedef p t n) o = refl
top_digests_alike old s t' a main (header_type p n fs) o = refl
top_digests_alike old s t' a main (struct_type p n fs) o = refl
top_digests_alike old s t' a main (register p r) o = refl
top_digests_alike old s t' a main (parser p d) o = refl
top_digests_alike old s t' a main (control p c) o = part_alike old s t' a (part_in main c.name) c o

pub digests_alike : (old : Names) (s t : Scope) → Alike old s t → (main : List (List ℕ)) (ys : List Top) → OldTops old ys → most_of_tops main s ys ≡ most_of_tops main t ys
digests_alike old s t a main [] o = refl
digests_alike old s t a main (y ∷ ys) o = let e = top_digests_alike old s t a main y o.0 in let f = digests_alike old (after_top s y) (after_top t y) (after_top_alike old s t a y o.0) main ys o.1 in cc

-- ---- the fields of a struct

has_same : (y : Top) → is_struct_type y ≡ false → (ys : List Top) (x : List ℕ) → has_struct (y ∷ ys) x ≡ has_struct ys x
has_same (struct_type p n fs) k ys x = absurd (let c : true ≡ false = k in cc)
has_same (constant p t n e) k ys x = refl
has_same (typedef p t n) k ys x = refl
has_same (header_type p n fs) k ys x = refl
has_same (register p r) k ys x = refl
has_same (parser p d) k ys x = refl
has_same (control p c) k ys x = refl

wider : {old : Names} {more : List ℕ → More} {change : Bool} {main : List (List ℕ)} {u s t : Scope} {ys zs : List Top} → TopsGrow old more change main u s t ys zs → (x : List ℕ) → old x ≡ true → has_struct ys x ≡ true → struct_fields zs x ≡ with_more (more x) (struct_fields ys x)
wider no_top x o h = absurd (let c : false ≡ true = h in cc)
wider {more = more} (same_top {ys = ys} {zs = zs} y i k g) x o h = struct_same y i zs x ∙ (wider g x o (sym (has_same y i ys x) ∙ h) ∙ ap (with_more (more x)) (sym (struct_same y i ys x)))
wider {old = old} (new_top {zs = zs} z i n l g) x o h = struct_passed old z n zs x o ∙ wider g x o h
wider {more = more} (wider_struct {ys = ys} {zs = zs} p n fs on ofs i j g) x o h = by (same_text n x) refl (λ e. wider g x o e) h
  where
    by : (b : Bool) → same_text n x ≡ b → (has_struct ys x ≡ true → struct_fields zs x ≡ with_more (more x) (struct_fields ys x)) → (b || has_struct ys x) ≡ true → cond b (with_more (more n) fs) (struct_fields zs x) ≡ with_more (more x) (cond b fs (struct_fields ys x))
    by true e ih h = ap (λ (y : List ℕ). with_more (more y) fs) ((bytes_eq-Decides n x).0 e)
    by false e ih h = ih h
wider (other_states p d rs tts m w b g) x o h = wider g x o h
wider (other_control p c rs ms b m i g) x o h = wider g x o h

pub structs_wider :
    (old : Names) (more : List ℕ → More) (change : Bool) (main : List (List ℕ)) (u s t : Scope) (ys zs front : List Top) → TopsGrow old more change main u s t ys zs → NewInFront old front → (x : List ℕ) → old x ≡ true → has_struct ys x ≡ true
    → struct_fields (front ++ zs) x ≡ with_more (more x) (struct_fields ys x)
structs_wider old more change main u s t ys zs front g n x o h = structs_behind old front n zs x o ∙ wider g x o h
