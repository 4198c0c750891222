-- What the program keeps is sound behind each change, and counted.
use Rattle.std.proofs.Common.{◌≡◌, ℕ, ◌+◌, ◌<◌, List, [], ◌∷◌, ◌++◌, length, get_or, Option, None, sym, ap, ap₂, subst, ◌∙◌, arith, length-append}
use Rattle.table_entries.specs.Entries.{Entry, Act}
use Rattle.p4_tables.specs.State.{Held, held_at, entries_in, inserted, with_default, replaced}
use Rattle.p4_tables.specs.Faults.{fault_in, entry_fault, default_fault_in, default_fault, IsReplaceable}
use Rattle.p4_tables.specs.Kept.{AreSound}
use Rattle.p4_tables.proofs.Changed.{read_at}
use Rattle.p4_tables.proofs.Sound.{entries_set, inserted_sound, default_sound, replaced_sound}

-- tables that are sound, of which so many entries are counted
pub record AreCounted (hs : List Held) (number : ℕ) : Type 0 where
  pub sound : AreSound hs
  pub count : number ≡ entries_in hs

-- an entry that is not refused is not refused
pub not_refused : (hs : List Held) (n count : ℕ) (h : Held) (e : Entry) → n < length hs → h ≡ get_or hs n h → count ≡ entries_in hs → fault_in h count e ≡ None → entry_fault hs n e ≡ None
not_refused hs n count h e lt is counted none = sym (ap₂ (λ (g : Held) (m : ℕ). fault_in g m e) (read_at hs n h lt is) counted) ∙ none

-- a default that is not refused, likewise
pub default_not_refused : (hs : List Held) (n : ℕ) (h : Held) (d : Act) → n < length hs → h ≡ get_or hs n h → default_fault_in h.shape d ≡ None → default_fault hs n d ≡ None
default_not_refused hs n h d lt is none = sym (ap (λ (g : Held). default_fault_in g.shape d) (read_at hs n h lt is)) ∙ none

pub behind_insert : (hs gs : List Held) (n count : ℕ) (e : Entry) → n < length hs → AreSound hs → count ≡ entries_in hs → entry_fault hs n e ≡ None → gs ≡ inserted hs n e → AreCounted gs (count + 1)
behind_insert hs gs n count e lt sound counted none is =
    let set_one = entries_set hs n (record (held_at hs n) { listed = (held_at hs n).listed ++ e ∷ [] }) lt in
    let more = length-append (held_at hs n).listed (e ∷ []) in
    let one : entries_in (inserted hs n e) ≡ count + 1 = omega (arith, set_one, more, counted) in
    record {
      sound = subst AreSound (sym is) (inserted_sound hs n e lt sound none);
      count = sym (ap entries_in is ∙ one);
    }

pub behind_default : (hs gs : List Held) (n count : ℕ) (d : Act) → n < length hs → AreSound hs → count ≡ entries_in hs → default_fault hs n d ≡ None → gs ≡ with_default hs n d → AreCounted gs count
behind_default hs gs n count d lt sound counted none is =
    let set_one = entries_set hs n (record (held_at hs n) { default = d }) lt in
    let same : entries_in (with_default hs n d) ≡ count = omega (arith, set_one, counted) in
    record {
      sound = subst AreSound (sym is) (default_sound hs n d lt sound none);
      count = sym (ap entries_in is ∙ same);
    }

pub behind_replace : (hs gs : List Held) (st : List Held) (n : ℕ) (es : List Entry) (d : Option Act) → hs ≡ st → n < length st → AreSound hs → IsReplaceable st n es d → gs ≡ replaced hs n es d → AreSound gs
behind_replace hs gs st n es d seen lt sound h is =
    let now : gs ≡ replaced st n es d = is ∙ ap (λ (s : List Held). replaced s n es d) seen in
    subst AreSound (sym now) (replaced_sound st n es d lt (subst AreSound seen sound) h)
