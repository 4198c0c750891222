-- Acts that are no call of an action and no application of a table: what they do is the same whatever calls do.
use Rattle.std.proofs.Common.{◌≡◌, ℕ, List, [], ◌∷◌, Bool, true, false, cond, refl, ap, ◌∙◌}
use Rattle.std.specs.Prelude.{codes}
use Rattle.lex_text.specs.Names.{same_text}
use Rattle.p4_tree.specs.Tree.{num, path, Arg, one, many}
use Rattle.p4_meaning.specs.Statements.{Go, Run, Act, makes, drops, reads, writes, tells, sums, runs, applies, idle, read_of, write_of, digest_of, sum_of, act_on_header, Calls, no_calls, done_by}
use Rattle.p4_statements.specs.Runs.{ended}

abbrev pub IsPlain : Act → Type 0
IsPlain (makes h b) = Unit {0}
IsPlain drops = Unit {0}
IsPlain (reads x t i) = Unit {0}
IsPlain (writes x i v) = Unit {0}
IsPlain (tells n es) = Unit {0}
IsPlain (sums v c es field) = Unit {0}
IsPlain (runs x es) = ⊥
IsPlain (applies x) = ⊥
IsPlain idle = Unit {0}

plain_does : (m : Calls) (a : Act) (r : Run) → IsPlain a → ended (done_by no_calls a r).0 Go ≡ done_by m a r
plain_does m (makes h b) r p = refl
plain_does m drops r p = refl
plain_does m (reads x t i) r p = refl
plain_does m (writes x i v) r p = refl
plain_does m (tells n es) r p = refl
plain_does m (sums v c es field) r p = refl
plain_does m (runs x es) r p = absurd p
plain_does m (applies x) r p = absurd p
plain_does m idle r p = refl

-- the run behind a plain act, which goes on
pub does_plainly : (m : Calls) (a : Act) (r q : Run) → IsPlain a → q ≡ (done_by no_calls a r).0 → ended q Go ≡ done_by m a r
does_plainly m a r q p e = ap (λ (q : Run). ended q Go) e ∙ plain_does m a r p

pub digest_plain : (args : List Arg) → IsPlain (digest_of args)
digest_plain (one p (num q n) ∷ many r es ∷ []) = tt
digest_plain _ = tt

pub sum_plain : (v : Bool) (args : List Arg) → IsPlain (sum_of v args)
sum_plain v (one p c ∷ many q es ∷ one r (path t field) ∷ one u h ∷ []) = tt
sum_plain v _ = tt

pub read_plain : (x : List ℕ) (args : List Arg) → IsPlain (read_of x args)
read_plain x (one p (path q target) ∷ one r i ∷ []) = tt
read_plain x _ = tt

pub write_plain : (x : List ℕ) (args : List Arg) → IsPlain (write_of x args)
write_plain x (one p i ∷ one q v ∷ []) = tt
write_plain x _ = tt

pick_plain : (b : Bool) (a c : Act) → IsPlain a → IsPlain c → IsPlain (cond b a c)
pick_plain true a c p q = p
pick_plain false a c p q = q

pub header_plain : (h : List (List ℕ)) (verb : List ℕ) → IsPlain (act_on_header h verb)
header_plain h verb = pick_plain (same_text verb (codes "setValid")) (makes h true) (cond (same_text verb (codes "setInvalid")) (makes h false) idle) tt (pick_plain (same_text verb (codes "setInvalid")) (makes h false) idle tt tt)
