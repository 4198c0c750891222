-- A parser's turns are never used up, since each takes a state away.
use Rattle.std.proofs.Common.{◌≡◌, ℕ, zero, suc, ◌<◌, List, [], ◌∷◌, length, Bool, true, false, cond, Option, Some, None, refl, ap, arith}
use Rattle.std.specs.Option.{option_map}
use Rattle.lex_text.specs.Names.{same_text}
use Rattle.p4_tree.specs.Tree.{ParserState}
use Rattle.p4_meaning.specs.Parsing.{Header, NoError, Reading, parser_end, Turned, ends, leads, turned, body_parsed, found_state, ends_parser, on_turned, passed_state, turns_of}

-- what is found leaves one state less
abbrev IsOneLess : ℕ → Option (ParserState × List ParserState) → Type 0
IsOneLess n None = Unit {0}
IsOneLess n (Some t) = suc (length t.1) ≡ n

behind_less : (st : ParserState) (n : ℕ) (t : Option (ParserState × List ParserState)) → IsOneLess n t → IsOneLess (suc n) (option_map (λ t. (t.0, st ∷ t.1)) t)
behind_less st n None h = tt
behind_less st n (Some t) h = ap suc h

pick_less : (b : Bool) (n : ℕ) (t u : Option (ParserState × List ParserState)) → IsOneLess n t → IsOneLess n u → IsOneLess n (cond b t u)
pick_less true n t u h k = h
pick_less false n t u h k = k

found_less : (sts : List ParserState) (x : List ℕ) → IsOneLess (length sts) (found_state sts x)
found_less [] x = tt
found_less (st ∷ sts) x = pick_less (same_text st.name x) (suc (length sts)) (Some (st, sts)) (option_map (λ t. (t.0, st ∷ t.1)) (found_state sts x)) refl (behind_less st (length sts) (found_state sts x) (found_less sts x))

-- so many turns are enough for any of these states
abbrev Enough : List Header → ℕ → Type 0
Enough hs n = (sts : List ParserState) (x : List ℕ) (s : Reading) → length sts < n → turns_of (suc n) hs sts x s ≡ turns_of n hs sts x s

turned_more : (hs : List Header) (n : ℕ) (sts : List ParserState) (r : Turned) → length sts < n → Enough hs n → on_turned r (turns_of (suc n) hs sts) ≡ on_turned r (turns_of n hs sts)
turned_more hs n sts (ends f) h more = refl
turned_more hs n sts (leads x s) h more = more sts x s h

passed_more : (hs : List Header) (n m : ℕ) (t : Option (ParserState × List ParserState)) (s : Reading) → IsOneLess m t → m < suc n → Enough hs n → passed_state hs t s (turns_of (suc n) hs) ≡ passed_state hs t s (turns_of n hs)
passed_more hs n m None s e h more = refl
passed_more hs n m (Some t) s e h more = turned_more hs n t.1 (turned (body_parsed hs t.0.body s) t.0.next) (omega arith) more

-- where there are more turns than states, one more changes nothing
pub one_turn_more : (hs : List Header) (n : ℕ) → Enough hs n
one_turn_more hs zero sts x s h = absurd (omega arith)
one_turn_more hs (suc n) sts x s h =
    ap (cond (ends_parser x) (parser_end s NoError)) (passed_more hs n (length sts) (found_state sts x) s (found_less sts x) h (λ l y r k. one_turn_more hs n l y r k))
