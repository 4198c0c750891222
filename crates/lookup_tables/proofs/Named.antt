-- Names of lookups' tables and actions find what they name.
use Rattle.std.proofs.Common.{◌≡◌, codes, ℕ, suc, ◌≤◌, ◌<◌, ◌^◌, List, [], ◌∷◌, map, Bool, true, false, cond, Option, Some, None, refl, sym, ap, ◌∙◌, arith}
use Rattle.std.specs.List.{AllByRecursion}
use Rattle.lex_text.specs.Names.{same_text}
use Rattle.p4_meaning.specs.Actions.{action_named}
use Rattle.p4_meaning.specs.Tables.{table_named}
use Rattle.own_code.proofs.Apart.{text_decides}
use Rattle.lowered_code.specs.Names.{table_name, action_name}
use Rattle.lowered_code.proofs.Numbers.{tables_apart, actions_apart}
use Rattle.lookup_tables.specs.Tables.{Lookup, table_for, action_for}
use Rattle.lookup_tables.specs.Finding.{AreNumbered}

-- ---- numbers rise

last_small : (n : ℕ) (ls : List Lookup) → AreNumbered n ls → n ≤ 2 ^ 64
last_small n [] h = h
last_small n (l ∷ ls) h = let rest = last_small (suc l.number) ls h.1 in omega (arith, h.0, rest)

-- the numbers behind are greater than n, and small
later :
    (n : ℕ) (ls : List Lookup) → AreNumbered (suc n) ls → AllByRecursion (λ l. (n < l.number) × (l.number < 2 ^ 64)) ls
later n [] h = tt
later n (l ∷ ls) h =
    let up : n < l.number = omega (arith, h.0) in
    let low : l.number < 2 ^ 64 = (let few = last_small (suc l.number) ls h.1 in omega (arith, few)) in
    ((up, low), further n l.number ls up (later l.number ls h.1))
  where
    further :
        (n m : ℕ) (ls : List Lookup) → n < m → AllByRecursion (λ l. (m < l.number) × (l.number < 2 ^ 64)) ls →
        AllByRecursion (λ l. (n < l.number) × (l.number < 2 ^ 64)) ls
    further n m [] up h = tt
    further n m (l ∷ ls) up h = ((omega (arith, up, h.0), h.0.1), further n m ls up h.1)

-- tables and actions of those behind have other names
module _ (n : ℕ) (few : n < 2 ^ 64) (c : List ℕ) where
  other_tables :
      (ls : List Lookup) → AllByRecursion (λ l. (n < l.number) × (l.number < 2 ^ 64)) ls →
      AllByRecursion (λ l. same_text (table_name c n) (table_name l.control l.number) ≡ false) ls
  other_tables [] h = tt
  other_tables (l ∷ ls) h = (tables_apart n l.number c l.control few h.0.1 (λ e. (let up = h.0.0 in omega (arith, e, up))), other_tables ls h.1)

  other_actions :
      (ls : List Lookup) → AllByRecursion (λ l. (n < l.number) × (l.number < 2 ^ 64)) ls →
      AllByRecursion (λ l. same_text (action_name c n) (action_name l.control l.number) ≡ false) ls
  other_actions [] h = tt
  other_actions (l ∷ ls) h = (actions_apart n l.number c l.control few h.0.1 (λ e. (let up = h.0.0 in omega (arith, e, up))), other_actions ls h.1)

-- those of the lookups behind one
pub tables_differ :
    (n : ℕ) (l : Lookup) (ls : List Lookup) → AreNumbered n (l ∷ ls) →
    AllByRecursion (λ m. same_text (table_name l.control l.number) (table_name m.control m.number) ≡ false) ls
tables_differ n l ls h = other_tables l.number (let few = last_small (suc l.number) ls h.1 in omega (arith, few)) l.control ls (later l.number ls h.1)

actions_differ :
    (n : ℕ) (l : Lookup) (ls : List Lookup) → AreNumbered n (l ∷ ls) →
    AllByRecursion (λ m. same_text (action_name l.control l.number) (action_name m.control m.number) ≡ false) ls
actions_differ n l ls h = other_actions l.number (let few = last_small (suc l.number) ls h.1 in omega (arith, few)) l.control ls (later l.number ls h.1)

-- ---- names

self_text : (x : List ℕ) → same_text x x ≡ true
self_text x = (text_decides x x).1 refl

pub table_there :
    (n : ℕ) (ls : List Lookup) → AreNumbered n ls →
    AllByRecursion (λ l. table_named (map table_for ls) (table_name l.control l.number) ≡ Some (table_for l)) ls
table_there n [] a = tt
table_there n (l ∷ ls) a = (
  ap (λ b. cond b (Some (table_for l)) (table_named (map table_for ls) (table_name l.control l.number))) (self_text (table_name l.control l.number)),
  rest ls (tables_differ n l ls a) (table_there (suc l.number) ls a.1),
)
  where
    rest :
        (ms : List Lookup) → AllByRecursion (λ m. same_text (table_name l.control l.number) (table_name m.control m.number) ≡ false) ms →
        AllByRecursion (λ m. table_named (map table_for ls) (table_name m.control m.number) ≡ Some (table_for m)) ms →
        AllByRecursion (λ m. table_named (map table_for (l ∷ ls)) (table_name m.control m.number) ≡ Some (table_for m)) ms
    rest [] o h = tt
    rest (m ∷ ms) o h = (ap (λ b. cond b (Some (table_for l)) (table_named (map table_for ls) (table_name m.control m.number))) o.0 ∙ h.0, rest ms o.1 h.1)

pub action_there :
    (n : ℕ) (ls : List Lookup) → AreNumbered n ls →
    AllByRecursion (λ l. action_named (map action_for ls) (action_name l.control l.number) ≡ Some (action_for l)) ls
action_there n [] a = tt
action_there n (l ∷ ls) a = (
  ap (λ b. cond b (Some (action_for l)) (action_named (map action_for ls) (action_name l.control l.number))) (self_text (action_name l.control l.number)),
  rest ls (actions_differ n l ls a) (action_there (suc l.number) ls a.1),
)
  where
    rest :
        (ms : List Lookup) → AllByRecursion (λ m. same_text (action_name l.control l.number) (action_name m.control m.number) ≡ false) ms →
        AllByRecursion (λ m. action_named (map action_for ls) (action_name m.control m.number) ≡ Some (action_for m)) ms →
        AllByRecursion (λ m. action_named (map action_for (l ∷ ls)) (action_name m.control m.number) ≡ Some (action_for m)) ms
    rest [] o h = tt
    rest (m ∷ ms) o h = (ap (λ b. cond b (Some (action_for l)) (action_named (map action_for ls) (action_name m.control m.number))) o.0 ∙ h.0, rest ms o.1 h.1)

-- the miss is no lookup's
pub no_action_there : (ls : List Lookup) → action_named (map action_for ls) (codes "NoAction") ≡ None
no_action_there [] = refl
no_action_there (l ∷ ls) = no_action_there ls
