-- The first state of a name in a list of states.
use Rattle.std.proofs.Common.{◌≡◌, ℕ, suc, ◌+◌, ◌<◌, List, [], ◌∷◌, ◌++◌, map, length, take, drop, get_or, add-one, Bool, true, false, cond, Option, Some, None, refl, sym, ap, ap₂, ◌∙◌, append_assoc, arith}
use Rattle.std.specs.Option.{option_map}
use Rattle.std.proofs.lemmas.List.{length-map, get_or-map, map-append, take-map, drop-map}
use Rattle.std.proofs.Math.Seq.{drop-cons, take-suc}
use Rattle.lex_text.specs.Names.{same_text}
use Rattle.p4_tree.specs.Tree.{ParserState}
use Rattle.p4_meaning.specs.Parsing.{found_state}

-- what is found behind some states
abbrev pub behind : List ParserState → Option (ParserState × List ParserState) → Option (ParserState × List ParserState)
behind front o = option_map (λ t. (t.0, front ++ t.1)) o

-- the state at a place has the name
pub found_here : (sts : List ParserState) (i : ℕ) (x : List ℕ) (d : ParserState) → i < length sts → same_text (get_or sts i d).name x ≡ true → Some (get_or sts i d, take i sts ++ drop (i + 1) sts) ≡ behind (take i sts) (found_state (drop i sts) x)
found_here sts i x d lt same =
    let e = get_or sts i d in
    let open_ : drop i sts ≡ e ∷ drop (i + 1) sts = drop-cons sts i d lt ∙ ap (λ n. e ∷ drop n sts) (sym (add-one i)) in
    let rest = drop (i + 1) sts in
    sym (ap (λ l. behind (take i sts) (found_state l x)) open_
    ∙ ap (λ b. behind (take i sts) (cond b (Some (e, rest)) (option_map (λ t. (t.0, e ∷ t.1)) (found_state rest x)))) same)

one_behind : (front : List ParserState) (e : ParserState) (o : Option (ParserState × List ParserState)) → behind front (option_map (λ t. (t.0, e ∷ t.1)) o) ≡ behind (front ++ e ∷ []) o
one_behind front e None = refl
one_behind front e (Some t) = ap (λ l. Some (t.0, l)) (sym (append_assoc front (e ∷ []) t.1))

-- it has another name
pub found_later : (sts : List ParserState) (i : ℕ) (x : List ℕ) (d : ParserState) → i < length sts → same_text (get_or sts i d).name x ≡ false → behind (take (i + 1) sts) (found_state (drop (i + 1) sts) x) ≡ behind (take i sts) (found_state (drop i sts) x)
found_later sts i x d lt other =
    let e = get_or sts i d in
    let open_ : drop i sts ≡ e ∷ drop (i + 1) sts = drop-cons sts i d lt ∙ ap (λ n. e ∷ drop n sts) (sym (add-one i)) in
    let rest = drop (i + 1) sts in
    let more : take (i + 1) sts ≡ take i sts ++ e ∷ [] = ap (λ n. take n sts) (add-one i) ∙ take-suc sts i d lt in
    ap (λ l. behind l (found_state rest x)) more
    ∙ sym (ap (λ l. behind (take i sts) (found_state l x)) open_
    ∙ ap (λ b. behind (take i sts) (cond b (Some (e, rest)) (option_map (λ t. (t.0, e ∷ t.1)) (found_state rest x)))) other
    ∙ one_behind (take i sts) e (found_state rest x))

-- the same of states that are lent
module _ {B : Type 0} (f : B → ParserState) where
  pub taken_here : (bs rest : List B) (i : ℕ) (x : List ℕ) (d r : B) → i < length bs → same_text (f (get_or bs i d)).name x ≡ true → r ≡ get_or bs i r → rest ≡ take i bs ++ drop (i + 1) bs → Some (f r, map f rest) ≡ behind (take i (map f bs)) (found_state (drop i (map f bs)) x)
  taken_here bs rest i x d r lt same is parts =
      let sts = map f bs in
      let within : i < length sts = omega (arith, length-map bs f) in
      let e : get_or sts i (f d) ≡ f (get_or bs i d) = get_or-map f bs i d (f d) lt in
      let e' : get_or sts i (f d) ≡ f r = get_or-map f bs i r (f d) lt ∙ ap f (sym is) in
      let kept : map f rest ≡ take i sts ++ drop (i + 1) sts = ap (map f) parts ∙ map-append f (take i bs) (drop (i + 1) bs) ∙ ap₂ (λ (l m : List ParserState). l ++ m) (sym (take-map f i bs)) (sym (drop-map f (i + 1) bs)) in
      ap₂ (λ (a : ParserState) (l : List ParserState). Some (a, l)) (sym e') kept
      ∙ found_here sts i x (f d) within (ap (λ (a : ParserState). same_text a.name x) e ∙ same)

  pub taken_later : (bs : List B) (i : ℕ) (x : List ℕ) (d : B) → i < length bs → same_text (f (get_or bs i d)).name x ≡ false → behind (take (i + 1) (map f bs)) (found_state (drop (i + 1) (map f bs)) x) ≡ behind (take i (map f bs)) (found_state (drop i (map f bs)) x)
  taken_later bs i x d lt other =
      let within : i < length (map f bs) = omega (arith, length-map bs f) in
      found_later (map f bs) i x (f d) within (ap (λ (a : ParserState). same_text a.name x) (get_or-map f bs i d (f d) lt) ∙ other)
