-- One of the tables that the program keeps is changed.
use Rattle.std.proofs.Common.{◌≡◌, ℕ, ◌<◌, List, length, get_or, set, Option, Some, None, refl, sym, ap, subst, ◌∙◌}
use Rattle.std.proofs.lemmas.List.{get_or_default, set-get_or}
use Rattle.std.proofs.Math.Seq.{map-set_same}
use Rattle.table_entries.specs.Entries.{Entry, Act}
use Rattle.p4_tables.specs.State.{Held, held_at, no_table, with_listed, with_default, replaced}
use Rattle.p4_tables.specs.Programs.{shapes}

-- what is read at a number
pub read_at : (st : List Held) (i : ℕ) (h : Held) → i < length st → h ≡ get_or st i h → h ≡ held_at st i
read_at st i h lt is = is ∙ get_or_default st i h no_table lt

-- a table that becomes another, by what it was
pub put_at : (st : List Held) (i : ℕ) (h g : Held) (f : Held → Held) → i < length st → h ≡ get_or st i h → g ≡ f h → set st i g ≡ set st i (f (held_at st i))
put_at st i h g f lt is e = ap (set st i) (e ∙ ap f (read_at st i h lt is))

-- a table that stays as it was
pub kept_at : (st : List Held) (i : ℕ) (h g : Held) → i < length st → h ≡ get_or st i h → g ≡ h → set st i g ≡ st
kept_at st i h g lt is e = ap (set st i) (e ∙ read_at st i h lt is) ∙ set-get_or st i no_table

-- the program has as many tables as are seen
pub within : (hs st : List Held) (i : ℕ) → hs ≡ st → i < length st → i < length hs
within hs st i is lt = subst (λ (l : List Held). i < length l) (sym is) lt

-- what tables take stays, whatever they hold
pub listed_shapes : (st : List Held) (n : ℕ) (es : List Entry) → shapes (with_listed st n es) ≡ shapes st
listed_shapes st n es = map-set_same (λ (h : Held). h.shape) st n (record (held_at st n) { listed = es }) no_table refl

pub default_shapes : (st : List Held) (n : ℕ) (d : Act) → shapes (with_default st n d) ≡ shapes st
default_shapes st n d = map-set_same (λ (h : Held). h.shape) st n (record (held_at st n) { default = d }) no_table refl

pub replaced_shapes : (st : List Held) (n : ℕ) (es : List Entry) (d : Option Act) → shapes (replaced st n es d) ≡ shapes st
replaced_shapes st n es None = listed_shapes st n es
replaced_shapes st n es (Some d) = default_shapes (with_listed st n es) n d ∙ listed_shapes st n es
