-- Steps of loads: what a table refuses, and one switch among all.
use Rattle.std.proofs.Common.{◌≡◌, ℕ, zero, suc, ◌+◌, ◌<◌, ◌≤◌, List, [], ◌∷◌, ◌++◌, length, map, take, get_or, set, Option, Some, Result, Ok, Err, refl, sym, ap, ◌∙◌, arith}
use Rattle.std.specs.Prelude.{⊤}
use Rattle.std.proofs.lemmas.List.{length-map, get_or-map, take_all}
use Rattle.std.proofs.Math.Seq.{map-set_same}
use Rattle.json_parts.specs.Answers.{◌>>=◌, GivesUnless}
use Rattle.table_faults.specs.declared.entry.EntryFault.{EntryFault}
use Rattle.table_faults.specs.declared.table.TableFault.{TableFault}
use Rattle.table_faults.specs.declared.table.TableFault.TheVariants as fault
use Rattle.p4_tree.specs.Tree.{Program}
use Rattle.table_shapes.specs.Shapes.{Shape}
use Rattle.p4_tables.specs.State.{Held}
use Rattle.p4_tables.specs.Programs.{shapes, state_before}
use Rattle.table_file.specs.Tables.{refused_by}
use Rattle.table_file.specs.Entries.{States, state_at, states_before}
use Rattle.table_file.specs.Laws.{AreOf}

-- a table refuses what has a fault
pub refuses : (path : List ℕ) (found : Option EntryFault) (st : List Held) (f : EntryFault) (t : TableFault) → found ≡ Some f → t ≡ fault.Entry path f → refused_by path found st ≡ Err t
refuses path found st f t is same = ap (λ o. refused_by path o st) is ∙ ap (λ (e : TableFault). Err e) (sym same)

-- what one state becomes, all become in its place
pub placed : (r : Result ⊤ TableFault) (defined : Result (List Held) TableFault) (all : List Held → States) (new : List Held) (news : States) → GivesUnless fault.NoMemory (λ (u : ⊤). new) r defined → news ≡ all new → GivesUnless fault.NoMemory (λ (u : ⊤). news) r (defined >>= λ st. Ok (all st))
placed (Ok u) defined all new news is same = rw is (ap (λ (sts : States). Ok sts) (sym same))
placed (Err e) defined all new news is same = λ other. rw (is other) refl

-- ---- all switches

-- a state that is read at a number takes what the state there does
pub shapes_there : (sts : States) (n : ℕ) (st : List Held) → n < length sts → st ≡ get_or sts n st → shapes st ≡ shapes (state_at sts n)
shapes_there sts n st lt is = ap shapes is ∙ sym (get_or-map shapes sts n st [] lt) ∙ get_or-map shapes sts n [] [] lt

pub same_shapes : (sts : States) (n : ℕ) (st : List Held) → shapes st ≡ shapes (state_at sts n) → map shapes (set sts n st) ≡ map shapes sts
same_shapes sts n st is = map-set_same shapes sts n st [] is

pub still_of : (p : Program) (switches : List (List ℕ)) (old new : States) → AreOf p switches old → map shapes new ≡ map shapes old → AreOf p switches new
still_of p switches old new are same =
    let count : length new ≡ length old = omega (arith, length-map new shapes, length-map old shapes, ap length same) in
    record {
      count = count ∙ are.count;
      each = λ n lt.
          let lt' : n < length old = omega (arith, lt, count) in
          record { same = sym (get_or-map shapes new n [] [] lt) ∙ ap (λ (ss : List (List Shape)). get_or ss n []) same ∙ get_or-map shapes old n [] [] lt' ∙ (are.each n lt').same };
    }

-- before the first entry
pub before_of : (p : Program) (switches : List (List ℕ)) → AreOf p switches (states_before p switches)
before_of p switches =
    record {
      count = length-map switches (λ (x : List ℕ). state_before p);
      each = λ n lt. record { same = ap shapes (get_or-map (λ (x : List ℕ). state_before p) switches n [] [] (omega (arith, lt, length-map switches (λ (x : List ℕ). state_before p)))) };
    }

pub one_more : (p : Program) (switches : List (List ℕ)) (n : ℕ) → n < length switches → states_before p (take (n + 1) switches) ≡ states_before p (take n switches) ++ state_before p ∷ []
one_more p [] n lt = absurd (omega arith)
one_more p (x ∷ xs) zero lt = refl
one_more p (x ∷ xs) (suc n) lt =
    let next : suc n + 1 ≡ suc (n + 1) = omega arith in
    ap (λ (m : ℕ). states_before p (take m (x ∷ xs))) next ∙ ap (λ (rest : States). state_before p ∷ rest) (one_more p xs n (omega arith))

pub all_taken : (p : Program) (switches : List (List ℕ)) (n : ℕ) → length switches ≤ n → states_before p (take n switches) ≡ states_before p switches
all_taken p switches n le = ap (states_before p) (take_all n switches le)
