-- No action of a program is called `NoAction`: a point stands in each full name.
use Rattle.std.proofs.Common.{◌≡◌, ℕ, List, [], ◌∷◌, ◌++◌, Bool, true, false, ◌||◌, if◌then◌else◌, codes, nat_eq, Some, None, refl, sym, ap, ◌∙◌}
use Rattle.std.proofs.lemmas.Bool.{or_left}
use Rattle.lex_text.specs.Names.{same_text}
use Rattle.p4_tree.specs.Tree.{Local, local_action, local_table, local_register, local_const, local_var, Top, constant, typedef, header_type, struct_type, register, parser, control}
use Rattle.p4_meaning.specs.Scope.{Scope, is_among, full, full_name, own_names}
use Rattle.p4_meaning.specs.Under.{behind_top, behind_local, in_control}
use Rattle.p4_meaning.specs.Actions.{Action, action_under, action_named, actions_in, actions_of}
use Rattle.slot_programs.proofs.NameLemmas.{same_is, same_self, or_right}

abbrev has_point : List ℕ → Bool
has_point [] = false
has_point (b ∷ bs) = nat_eq b 46 || has_point bs

full_has : (c x : List ℕ) → has_point (full c x) ≡ true
full_has c [] = refl
full_has c (b ∷ bs) = or_right (nat_eq b 46) (has_point (full c bs)) (full_has c bs)

-- a name with a point is not this one
no_other : (y : List ℕ) → has_point y ≡ true → same_text y (codes "NoAction") ≡ false
no_other y h = go (same_text y (codes "NoAction")) refl
  where
    go : (b : Bool) → same_text y (codes "NoAction") ≡ b → b ≡ false
    go true e = absurd (let k : true ≡ false = sym h ∙ ap has_point (same_is y (codes "NoAction") e) in cc k)
    go false e = refl

none_of_both : (xs ys : List Action) → action_named xs (codes "NoAction") ≡ None → action_named ys (codes "NoAction") ≡ None → action_named (xs ++ ys) (codes "NoAction") ≡ None
none_of_both [] ys a b = b
none_of_both (x ∷ xs) ys a b = go (λ h. none_of_both xs ys h b) (same_text x.name (codes "NoAction")) a
  where
    go : (action_named xs (codes "NoAction") ≡ None → action_named (xs ++ ys) (codes "NoAction") ≡ None) → (t : Bool) → (if t then Some x else action_named xs (codes "NoAction")) ≡ None → (if t then Some x else action_named (xs ++ ys) (codes "NoAction")) ≡ None
    go more true e = absurd (cc e)
    go more false e = more e

-- the full name of what a control declares has a point
own_point : (sc : Scope) (x : List ℕ) → is_among sc.own x ≡ true → has_point (full_name sc x) ≡ true
own_point sc x own = ap (λ b. has_point (if b then full sc.control x else x)) own ∙ full_has sc.control x

abbrev Owns : List (List ℕ) → List Local → Type 0
Owns own ls = (x : List ℕ) → is_among (own_names ls) x ≡ true → is_among own x ≡ true

none_in : (sc : Scope) (ls : List Local) → Owns sc.own ls → action_named (actions_in sc ls) (codes "NoAction") ≡ None
none_in sc [] owns = refl
none_in sc (local_action p a ∷ ls) owns =
    ap (λ b. if b then Some (action_under sc a) else action_named (actions_in sc ls) (codes "NoAction")) (no_other (full_name sc a.name) (own_point sc a.name (owns a.name (or_left (same_text a.name a.name) (is_among (own_names ls) a.name) (same_self a.name)))))
    ∙ none_in sc ls (λ x e. owns x (or_right (same_text a.name x) (is_among (own_names ls) x) e))
none_in sc (local_table p t ∷ ls) owns = none_in sc ls (λ x e. owns x (or_right (same_text t.name x) (is_among (own_names ls) x) e))
none_in sc (local_register p r ∷ ls) owns = none_in sc ls (λ x e. owns x (or_right (same_text r.name x) (is_among (own_names ls) x) e))
none_in sc (local_const p ty x e ∷ ls) owns = none_in (behind_local sc (local_const p ty x e)) ls owns
none_in sc (local_var p ty x e ∷ ls) owns = none_in sc ls owns

pub no_action : (sc : Scope) (ts : List Top) → action_named (actions_of sc ts) (codes "NoAction") ≡ None
no_action sc [] = refl
no_action sc (constant p ty x e ∷ ts) = no_action (behind_top sc (constant p ty x e)) ts
no_action sc (typedef p ty x ∷ ts) = no_action (behind_top sc (typedef p ty x)) ts
no_action sc (header_type p x fs ∷ ts) = no_action sc ts
no_action sc (struct_type p x fs ∷ ts) = no_action sc ts
no_action sc (register p r ∷ ts) = no_action sc ts
no_action sc (parser p d ∷ ts) = no_action sc ts
no_action sc (control p c ∷ ts) = none_of_both (actions_in (in_control 0 1 2 sc c) c.locals) (actions_of sc ts) (none_in (in_control 0 1 2 sc c) c.locals (λ x e. e)) (no_action sc ts)
