-- Names of what is lowered are names of a text.
use Rattle.std.proofs.Common.{◌≡◌, codes, ℕ, zero, suc, ◌+◌, ◌<◌, ◌≤◌, ◌^◌, List, [], ◌∷◌, ◌++◌, length, Bool, true, false, ◌||◌, nat_le, refl, ◌∙◌, arith}
use Rattle.std.specs.List.{AllByRecursion, list_all}
use Rattle.std.specs.Fmt.{decimal}
use Rattle.std.proofs.lemmas.Bool.{and_from, le-leb}
use Rattle.std.proofs.lemmas.List.Folds.{list_all-append}
use Rattle.lex_text.specs.NameToken.{is_name_start, is_name_byte, is_digit}
use Rattle.indus_tree.specs.Tree.{Shape, one, list, set, dict, Decl}
use Rattle.indus_tree.specs.declared.tree.DeclKind.{DeclKind}
use Rattle.indus_tree.specs.declared.tree.DeclKind.TheVariants.{Tele, Sensor, Header, Control}
use Rattle.indus_tree.specs.declared.tree.Ty.{Ty}
use Rattle.lower_lists.specs.Names.{item_name, count_name}
use Rattle.flat_laws.specs.Numbered.{item_decls, numbered_shape, numbered_kind, numbered_from}
use Rattle.flat_laws.proofs.NameLemmas.{AllLow, low_digits}
use Rattle.p4_printer.specs.CanSpell.{IsName}
use Rattle.lookup_names.specs.Names.{table_name, action_name, found_name, key_name, value_name}
use Rattle.lowered_code.specs.Names.{tele_name, sensor_name}
use Rattle.whole_properties.proofs.Lists.{all_both}
use Rattle.whole_properties.proofs.TelemetryWords.{IsShort, AreTele}

-- the bytes may stand behind the first of a name
abbrev pub IsWord : List ℕ → Type 0
IsWord x = list_all is_name_byte x ≡ true

digit_is : (b : ℕ) → 48 ≤ b → b < 58 → is_name_byte b ≡ true
digit_is b le lt = go (is_name_start b) (and_from (nat_le 48 b) (nat_le b 57) (le-leb 48 b le) (le-leb b 57 (omega (arith, lt))))
  where
    go : (a : Bool) → is_digit b ≡ true → (a || is_digit b) ≡ true
    go true h = refl
    go false h = h

low_word : (bs : List ℕ) → AllLow bs → IsWord bs
low_word [] h = refl
low_word (b ∷ bs) h = and_from (is_name_byte b) (list_all is_name_byte bs) (digit_is b h.0 h.1) (low_word bs h.2)

number_word : (n : ℕ) → n < 2 ^ 64 → IsWord (decimal n)
number_word n lt = low_word (decimal n) (low_digits n lt)

both_words : (x y : List ℕ) → IsWord x → IsWord y → IsWord (x ++ y)
both_words x y h k = list_all-append is_name_byte x y ∙ and_from (list_all is_name_byte x) (list_all is_name_byte y) h k

-- ---- names

pub tele_named : (x : List ℕ) → IsWord x → IsName (tele_name x)
tele_named x h = (h, refl)

pub sensor_named : (x : List ℕ) → IsWord x → IsName (sensor_name x)
sensor_named x h = (h, refl)

pub table_named : (n : ℕ) → n < 2 ^ 64 → IsName (table_name n)
table_named n lt = (number_word n lt, refl)

pub action_named : (n : ℕ) → n < 2 ^ 64 → IsName (action_name n)
action_named n lt = (number_word n lt, refl)

pub found_named : (n : ℕ) → n < 2 ^ 64 → IsName (found_name n)
found_named n lt = (number_word n lt, refl)

pub key_named : (n i : ℕ) → n < 2 ^ 64 → i < 2 ^ 64 → IsName (key_name n i)
key_named n i ln li = (both_words (decimal n) (codes "_" ++ decimal i) (number_word n ln) (number_word i li), refl)

pub value_named : IsName value_name
value_named = (refl, refl)

-- ---- numbered scalars

item_word : (v i : ℕ) → v < 2 ^ 64 → i < 2 ^ 64 → IsWord (item_name v i)
unfolding item_name
item_word v i lv li = both_words (decimal v) (95 ∷ decimal i) (number_word v lv) (number_word i li)

count_word : (v : ℕ) → v < 2 ^ 64 → IsWord (count_name v)
unfolding count_name
count_word v lv = both_words (decimal v) (95 ∷ 99 ∷ []) (number_word v lv) refl

abbrev AreWords : List Decl → Type 0
AreWords ds = AllByRecursion (λ d. IsWord d.name) ds

item_words : (p v : ℕ) (t : Ty) (n : ℕ) → v < 2 ^ 64 → n < 2 ^ 64 → AreWords (item_decls p v t n)
item_words p v t zero lv ln = tt
item_words p v t (suc i) lv ln = all_both (λ d. IsWord d.name) (item_decls p v t i) _ (item_words p v t i lv (omega (arith, ln))) (item_word v i lv (omega (arith, ln)), tt)

shape_words : (p v : ℕ) (s : Shape) → v < 2 ^ 64 → IsShort s → AreWords (numbered_shape p v s)
shape_words p v (one t) lv h = (item_word v 0 lv (omega arith), tt)
shape_words p v (list t n) lv h = (count_word v lv, item_words p v t n lv (omega (arith, h)))
shape_words p v (set ks) lv h = tt
shape_words p v (dict ks t) lv h = tt

pub numbered_words : (ds : List Decl) (n : ℕ) → n + length ds < 2 ^ 64 → AreTele ds → AreWords ds → AreWords (numbered_from n ds)
numbered_words [] n few a h = tt
numbered_words (d ∷ ds) n few a h =
    all_both (λ d. IsWord d.name) (numbered_kind d.kind n d) (numbered_from (n + 1) ds) (go d.kind refl) (numbered_words ds (n + 1) (omega (arith, few)) a.1 h.1)
  where
    go : (k : DeclKind) → d.kind ≡ k → AreWords (numbered_kind k n d)
    go Tele e = shape_words d.at n d.shape (omega (arith, few)) (a.0 e).1
    go Sensor e = (h.0, tt)
    go Header e = (h.0, tt)
    go Control e = (h.0, tt)
