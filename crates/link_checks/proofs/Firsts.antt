-- The first name of two lists that is taken.
use Rattle.std.proofs.Common.{◌≡◌, ◌∙◌, ap, ℕ, Bool, true, false, List, [], ◌∷◌, ◌++◌, Option, Some, None, refl, if◌then◌else◌}
use Rattle.std.proofs.lemmas.List.{append_assoc}
use Rattle.p4_tree.specs.Tree.{ParserState, stmts_from}
use Rattle.link_faults.specs.Refusals.{or_else}
use Rattle.link_faults.specs.WrittenNames.{Names, first_taken, is_taken, names_of_states, names_of_stmts, names_of_transition}

when : (b : Bool) (x : List ℕ) (o r : Option (List ℕ)) → or_else (if b then Some x else o) r ≡ if b then Some x else or_else o r
when true x o r = refl
when false x o r = refl

pub taken_both : (a b : Names) → or_else (first_taken a) (first_taken b) ≡ first_taken (a ++ b)
taken_both [] b = refl
taken_both (x ∷ a) b = when (is_taken x) x (first_taken a) (first_taken b) ∙ ap (λ o. if is_taken x then Some x else o) (taken_both a b)

pub some_front : (v : List ℕ) (x y : Names) → Some v ≡ first_taken x → Some v ≡ first_taken (x ++ y)
some_front v x y is = ap (λ o. or_else o (first_taken y)) is ∙ taken_both x y

pub none_front : (o : Option (List ℕ)) (x y : Names) → None ≡ first_taken x → o ≡ first_taken y → o ≡ first_taken (x ++ y)
none_front o x y none is = is ∙ (ap (λ p. or_else p (first_taken y)) none ∙ taken_both x y)

-- of a parser's states the first
pub state_step : (s : ParserState) (ss : List ParserState) → names_of_states (s ∷ []) ++ names_of_states ss ≡ names_of_states (s ∷ ss)
state_step s ss =
    let body = names_of_stmts (stmts_from s.body) in
    let next = names_of_transition s.next in
    let rest = names_of_states ss in
    ap (λ (xs : Names). s.name ∷ xs) (append_assoc body (next ++ []) rest ∙ ap (λ (xs : Names). body ++ xs) (append_assoc next [] rest))
