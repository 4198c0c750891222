-- The push of the switch's number onto the list.
use Rattle.std.proofs.Common.{◌≡◌, codes, ℕ, List, [], Bool, true, false, None, Some, refl, sym, ap, ap₂, ◌∙◌, subst, arith}
use Rattle.std.specs.Prelude.{if◌then◌else◌, nat_eq}
use Rattle.std.proofs.Math.Nat.{mod-lt}
use Rattle.std.proofs.lemmas.Nat.{pow_pos}
use Rattle.bit_values.specs.Bits.{Word, word}
use Rattle.bit_values.specs.Widths.{sound_width, cast_word}
use Rattle.bit_values.proofs.BitsLemmas.{cast_of_small}
use Rattle.p4_tree.specs.Tree.{Expr, path, Stmt, block, assign, choice, done, next, otherwise}
use Rattle.p4_meaning.specs.Store.{set_value}
use Rattle.p4_meaning.specs.Statements.{Digest, Run, in_store, Calls, meaning_of_stmt, meaning_of}
use Rattle.p4_meaning.specs.Parsing.{Field}
use Rattle.p4_meaning.specs.Value.{value_of}
use Rattle.monitor_laws.specs.Names.{tele_header, is_lowered}
use Rattle.monitor_laws.specs.Telemetry.{HasWords}
use Rattle.monitor_laws.specs.Trees.{number}
use Rattle.sample_monitor.specs.Property.{Tele, pushed, byte_of, IsByte, IsFit}
use Rattle.sample_monitor.specs.Sample.{sample, tele_path, count_path, front_path, back_path, has_count, push_full, push_second, push_first, push}
use Rattle.sample_monitor.proofs.Steps.{Ends, step, nothing_more, chosen}
use Rattle.sample_monitor.proofs.Tests.{count_is}
use Rattle.sample_monitor.proofs.States.{At, at_set, field_read, sets_field}

pub byte_fits : (n : ℕ) → IsByte (byte_of n)
byte_fits n = record { width = refl; low = mod-lt n (pow_pos 8) }

-- a byte in the place of a byte
byte_cast : (u w : Word) → IsByte u → IsByte w → cast_word (sound_width u.width) w ≡ w
byte_cast u w hu hw = ap (λ n. cast_word (sound_width n) w) hu.width ∙ ap₂ word (sym hw.width) (cast_of_small 8 w.value hw.low)

-- the three kinds of push
abbrev full : Word → Tele → Tele
full w t = record t { front = t.back; back = w }

abbrev second : Word → Tele → Tele
second w t = record t { count = word 8 2; back = w }

abbrev alone : Word → Tele → Tele
alone w t = record t { count = word 8 1; front = w }

full_is : (w : Word) (t : Tele) → nat_eq t.count.value 2 ≡ true → pushed w t ≡ full w t
full_is w t is = ap (λ b. if b then full w t else if nat_eq t.count.value 1 then second w t else alone w t) is

second_is : (w : Word) (t : Tele) → nat_eq t.count.value 2 ≡ false → nat_eq t.count.value 1 ≡ true → pushed w t ≡ second w t
second_is w t out is = ap₂ (λ a b. if a then full w t else if b then second w t else alone w t) out is

alone_is : (w : Word) (t : Tele) → nat_eq t.count.value 2 ≡ false → nat_eq t.count.value 1 ≡ false → pushed w t ≡ alone w t
alone_is w t out is = ap₂ (λ a b. if a then full w t else if b then second w t else alone w t) out is

pushed_by : (a b : Bool) (w : Word) (t : Tele) → IsByte w → IsFit t → IsFit (if a then full w t else if b then second w t else alone w t)
pushed_by true b w t h f = record { width = f.width; low = f.low; count = f.count; few = f.few; front = f.back; back = h }
pushed_by false true w t h f = record { width = f.width; low = f.low; count = record { width = refl; low = omega arith }; few = omega arith; front = f.front; back = h }
pushed_by false false w t h f = record { width = f.width; low = f.low; count = record { width = refl; low = omega arith }; few = omega arith; front = h; back = f.back }

-- what is pushed fits
pub pushed_fits : (w : Word) (t : Tele) → IsByte w → IsFit t → IsFit (pushed w t)
pushed_fits w t h f = pushed_by (nat_eq t.count.value 2) (nat_eq t.count.value 1) w t h f

module _ (calls : Calls) (vars : List Field) (a : Run) (plain : a.store.headers [] ≡ None) (valid : a.store.headers tele_header ≡ Some true) (vs : List Word) (z : List ℕ) (ds : List Digest) (n : ℕ) (moves : (x : List ℕ) (w : Word) (q : Run) → HasWords [] vars vs q.store → HasWords [] vars vs (set_value q.store (tele_path x) w)) where
  abbrev There : Tele → Run → Type 0
  There t q = At vars a t vs z ds q

  -- a field of a byte takes a byte
  takes : (q : Run) (t t' : Tele) (x : List ℕ) (e : Expr) (u w : Word) → is_lowered (tele_path x) ≡ true → There t q → q.store.values (tele_path x) ≡ u → IsByte u → IsByte w → value_of e u.width q.store ≡ w → HasWords tele_header sample.fields (sample.words t') (set_value q.store (tele_path x) w) → Ends (There t') (meaning_of_stmt calls (assign 0 (tele_path x) e) q)
  takes q t t' x e u w lowered i old hu hw is words =
      sets_field a plain valid calls (There t') q x e u w i.others old is
      (subst (λ v. There t' (in_store q (set_value q.store (tele_path x) v))) (sym (byte_cast u w hu hw))
      (at_set vars a t t' vs vs z ds q (tele_path x) w lowered i words (moves x w q i.variables)))

  fulls : (q : Run) (t : Tele) → IsFit t → There t q → Ends (There (full (byte_of n) t)) (meaning_of calls (push_full n) q)
  fulls q t f i =
      let M : Run → Type 0 = There (record t { front = t.back }) in
      let R : Run → Type 0 = There (full (byte_of n) t) in
      step calls M R (assign 0 front_path (path 0 back_path)) (next (assign 0 back_path (number 8 n)) done) q
      (takes q t (record t { front = t.back }) (codes "front") (path 0 back_path) t.front t.back refl i i.words.1.1.1.0 f.front f.back (field_read a plain valid q (codes "back") t.back i.others i.words.1.1.1.1.0) (i.words.0, (i.words.1.0, (i.words.1.1.0, (refl, i.words.1.1.1.1)))))
      (λ p j. step calls R R (assign 0 back_path (number 8 n)) done p
      (takes p (record t { front = t.back }) (full (byte_of n) t) (codes "back") (number 8 n) t.back (byte_of n) refl j j.words.1.1.1.1.0 f.back (byte_fits n) refl (j.words.0, (j.words.1.0, (j.words.1.1.0, (j.words.1.1.1.0, (refl, tt))))))
      (λ p j. nothing_more calls R p j))

  seconds : (q : Run) (t : Tele) → IsFit t → There t q → Ends (There (second (byte_of n) t)) (meaning_of calls (push_second n) q)
  seconds q t f i =
      let M : Run → Type 0 = There (record t { count = word 8 2 }) in
      let R : Run → Type 0 = There (second (byte_of n) t) in
      step calls M R (assign 0 count_path (number 8 2)) (next (assign 0 back_path (number 8 n)) done) q
      (takes q t (record t { count = word 8 2 }) (codes "count") (number 8 2) t.count (word 8 2) refl i i.words.1.1.0 f.count (byte_fits 2) refl (i.words.0, (i.words.1.0, (refl, i.words.1.1.1))))
      (λ p j. step calls R R (assign 0 back_path (number 8 n)) done p
      (takes p (record t { count = word 8 2 }) (second (byte_of n) t) (codes "back") (number 8 n) t.back (byte_of n) refl j j.words.1.1.1.1.0 f.back (byte_fits n) refl (j.words.0, (j.words.1.0, (j.words.1.1.0, (j.words.1.1.1.0, (refl, tt))))))
      (λ p j. nothing_more calls R p j))

  alones : (q : Run) (t : Tele) → IsFit t → There t q → Ends (There (alone (byte_of n) t)) (meaning_of calls (push_first n) q)
  alones q t f i =
      let M : Run → Type 0 = There (record t { count = word 8 1 }) in
      let R : Run → Type 0 = There (alone (byte_of n) t) in
      step calls M R (assign 0 count_path (number 8 1)) (next (assign 0 front_path (number 8 n)) done) q
      (takes q t (record t { count = word 8 1 }) (codes "count") (number 8 1) t.count (word 8 1) refl i i.words.1.1.0 f.count (byte_fits 1) refl (i.words.0, (i.words.1.0, (refl, i.words.1.1.1))))
      (λ p j. step calls R R (assign 0 front_path (number 8 n)) done p
      (takes p (record t { count = word 8 1 }) (alone (byte_of n) t) (codes "front") (number 8 n) t.front (byte_of n) refl j j.words.1.1.1.0 f.front (byte_fits n) refl (j.words.0, (j.words.1.0, (j.words.1.1.0, (refl, j.words.1.1.1.1)))))
      (λ p j. nothing_more calls R p j))

  pub pushes : (q : Run) (t : Tele) → IsFit t → There t q → Ends (There (pushed (byte_of n) t)) (meaning_of_stmt calls (push n) q)
  pushes q t f i =
      let R : Run → Type 0 = There (pushed (byte_of n) t) in
      let there = field_read a plain valid q (codes "count") t.count i.others i.words.1.1.0 in
      let less : Stmt = choice 0 (has_count 1) (block 0 (push_second n)) (otherwise (block 0 (push_first n))) in
      chosen calls R 0 (has_count 2) (block 0 (push_full n)) (otherwise less) q (nat_eq t.count.value 2) refl (count_is q.store 2 t.count (omega arith) f.count there)
      (λ is. subst (λ t'. Ends (There t') (meaning_of calls (push_full n) q)) (sym (full_is (byte_of n) t is)) (fulls q t f i))
      (λ out. chosen calls R 0 (has_count 1) (block 0 (push_second n)) (otherwise (block 0 (push_first n))) q (nat_eq t.count.value 1) refl (count_is q.store 1 t.count (omega arith) f.count there)
      (λ is. subst (λ t'. Ends (There t') (meaning_of calls (push_second n) q)) (sym (second_is (byte_of n) t out is)) (seconds q t f i))
      (λ is. subst (λ t'. Ends (There t') (meaning_of calls (push_first n) q)) (sym (alone_is (byte_of n) t out is)) (alones q t f i)))
