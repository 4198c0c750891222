-- The monitor's own names and paths are apart from the forwarding program's.
use Rattle.std.specs.Prelude.{nat_eq}
use Rattle.std.proofs.Common.{◌≡◌, codes, ℕ, List, [], ◌∷◌, ◌++◌, Bool, true, false, not, ◌&&◌, cond, Some, None, refl, ap, ap₂, ◌∙◌, arith}
use Rattle.std.proofs.lemmas.Bool.Decides.{nat_tests}
use Rattle.std.specs.List.{AllByRecursion}
use Rattle.lex_text.specs.Names.{same_text, same_path, parent}
use Rattle.lex_text.specs.Comments.{begins}
use Rattle.p4_meaning.specs.Standard.{headers_root}
use Rattle.p4_meaning.specs.Tables.{Table, table_named}
use Rattle.own_code.specs.Regions.{is_mine, is_free}
use Rattle.own_code.proofs.Apart.{not_both, apart_names, both_left, both_right, free_apart, free_parent}
use Rattle.monitor_laws.specs.Names.{tele_header, is_flag, is_lowered, is_sensor, is_variable}

and_none : (b : Bool) → (b && false) ≡ false
and_none true = refl
and_none false = refl

is_other : (a : Bool) → not a ≡ true → a ≡ false
is_other true h = absurd (cc)
is_other false h = refl

-- a free path is below no telemetry header
pub free_above : (q : List (List ℕ)) → is_free q ≡ true → same_path tele_header (parent q) ≡ false
free_above q h = free_apart tele_header (parent q) refl (free_parent q h)

and_last : (a b c : Bool) → b ≡ false → (a && (b && c)) ≡ false
and_last true b c e = ap (λ b. b && c) e
and_last false b c e = refl

-- lowered statements write no free path
pub free_lowered : (p : List (List ℕ)) → is_free p ≡ true → is_lowered p ≡ false
free_lowered [] h = refl
free_lowered (x ∷ []) h = turned (is_mine x) (not (is_flag x)) h
  where
    turned : (a b : Bool) → not a ≡ true → (a && b) ≡ false
    turned true b h = absurd (cc)
    turned false b h = refl
free_lowered (x ∷ y ∷ []) h = refl
free_lowered (x ∷ y ∷ z ∷ rest) h =
    and_last (same_text headers_root x) (same_text (codes "hydra_tele") y) _
    (apart_names is_mine (codes "hydra_tele") y refl (is_other (is_mine y) (both_right (not (is_mine x)) (not (is_mine y)) h)))

-- no free path is a variable of the monitor's
pub free_variable : (p : List (List ℕ)) → is_free p ≡ true → is_variable p ≡ false
free_variable [] h = refl
free_variable (x ∷ []) h = is_other (is_mine x) h
free_variable (x ∷ y ∷ rest) h = refl

-- what begins with two texts begins with the first
begins_front : (a b x : List ℕ) → begins (a ++ b) x ≡ true → begins a x ≡ true
begins_front [] b x h = refl
begins_front (c ∷ a) b [] h = absurd (cc)
begins_front (c ∷ a) b (d ∷ x) h =
    both_true (both_left (nat_eq c d) (begins (a ++ b) x) h) (begins_front a b x (both_right (nat_eq c d) (begins (a ++ b) x) h))
  where
    both_true : nat_eq c d ≡ true → begins a x ≡ true → (nat_eq c d && begins a x) ≡ true
    both_true e f = ap (λ u. u && begins a x) e ∙ f

-- a text does not go on in two ways
begins_one : (a : List ℕ) (m n : ℕ) (u v x : List ℕ) → nat_eq m n ≡ false → begins (a ++ m ∷ u) x ≡ true → begins (a ++ n ∷ v) x ≡ false
begins_one [] m n u v [] o h = refl
begins_one [] m n u v (d ∷ x) o h = go (nat_eq n d) refl
  where
    go : (b : Bool) → nat_eq n d ≡ b → (nat_eq n d && begins v x) ≡ false
    go true e = let first = both_left (nat_eq m d) (begins u x) h in absurd (grind (arith, nat_tests, first, e, o))
    go false e = ap (λ b. b && begins v x) e
begins_one (c ∷ a) m n u v [] o h = refl
begins_one (c ∷ a) m n u v (d ∷ x) o h = ap (λ b. nat_eq c d && b) (begins_one a m n u v x o (both_right (nat_eq c d) (begins (a ++ m ∷ u) x) h)) ∙ and_none (nat_eq c d)

-- a register of a sensor is the monitor's
pub sensor_mine : (x : List ℕ) → is_sensor x ≡ true → is_mine x ≡ true
sensor_mine x h = ap₂ (λ a b. a && not b) (begins_front (codes "hydra_") (codes "s_") x h) (begins_one (codes "hydra_") 115 120 (codes "_") (codes "_") x refl h)

pub own_sensor : (x : List ℕ) → is_mine x ≡ false → is_sensor x ≡ false
own_sensor x o = go (is_sensor x) refl
  where
    go : (b : Bool) → is_sensor x ≡ b → is_sensor x ≡ false
    go true e = not_both (sensor_mine x e) o
    go false e = e

-- no table of the monitor's has an own name
pub none_named : (ts : List Table) (x : List ℕ) → AllByRecursion (λ t. is_mine t.name ≡ true) ts → is_mine x ≡ false → table_named ts x ≡ None
none_named [] x mine own = refl
none_named (t ∷ ts) x mine own =
    ap (λ b. cond b (Some t) (table_named ts x)) (apart_names is_mine t.name x mine.0 own) ∙ none_named ts x mine.1 own
