-- An own table that runs actions of its list, or its default, runs own actions.
use Rattle.std.proofs.Common.{◌≡◌, ℕ, List, [], ◌∷◌, Bool, true, false, ◌||◌, Option, Some, refl, sym, ap, ◌∙◌, subst}
use Rattle.std.specs.List.{AllByRecursion}
use Rattle.lex_text.specs.Names.{same_text}
use Rattle.p4_meaning.specs.Scope.{is_among}
use Rattle.p4_meaning.specs.Choice.{Entry}
use Rattle.p4_meaning.specs.Tables.{Table, table_named, Entries}
use Rattle.p4_meaning.specs.Laws.{RunsListed}
use Rattle.own_code.specs.Regions.{is_mine}
use Rattle.own_code.specs.Forwarding.{IsOwnTable}
use Rattle.own_code.specs.OwnCode.{AreOwnEntries}
use Rattle.own_code.proofs.Apart.{text_decides}
use Rattle.own_code.proofs.OwnCalls.{IsOwnTableIf, found_table}

-- what is one of own names is own
among_own : (xs : List (List ℕ)) (y : List ℕ) → AllByRecursion (λ x. is_mine x ≡ false) xs → is_among xs y ≡ true → is_mine y ≡ false
among_own [] y own e = absurd (cc)
among_own (x ∷ xs) y own e = go (same_text x y) refl e (among_own xs y own.1)
  where
    go : (b : Bool) → same_text x y ≡ b → (b || is_among xs y) ≡ true → (is_among xs y ≡ true → is_mine y ≡ false) → is_mine y ≡ false
    go true is f more = ap is_mine (sym ((text_decides x y).0 is)) ∙ own.0
    go false is f more = more f

entries_own : (t : Table) → IsOwnTable t → (es : List Entry) → AllByRecursion (λ e. is_among (t.default.action ∷ t.actions) e.action ≡ true) es → AllByRecursion (λ e. is_mine e.action ≡ false) es
entries_own t own [] listed = tt
entries_own t own (e ∷ es) listed = (among_own (t.default.action ∷ t.actions) e.action own.actions listed.0, entries_own t own es listed.1)

-- entries and a default of its list
pub listed_own : (t : Table) → IsOwnTable t → (n : Entries) → RunsListed (Some t) n → AreOwnEntries n
listed_own t own n listed =
    record { listed = entries_own t own n.listed listed.0; default = among_own (t.default.action ∷ t.actions) n.default.action own.actions listed.1 }

-- the table that has the name
pub held_own : (ts : List Table) → AllByRecursion IsOwnTable ts → (x : List ℕ) (t : Table) → table_named ts x ≡ Some t → (n : Entries) → RunsListed (table_named ts x) n → AreOwnEntries n
held_own ts own x t is n listed =
    listed_own t (subst IsOwnTableIf is (found_table ts x own)) n (subst (λ (o : Option Table). RunsListed o n) is listed)
