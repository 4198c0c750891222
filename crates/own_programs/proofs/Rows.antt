-- Worked rows: whose names are whose, and which programs tell reports.
use Rattle.std.proofs.Common.{◌≡◌, ℕ, [], ◌∷◌, true, false, codes, refl}
use Rattle.p4_tree.specs.Tree.{num, flag, one, many, Stmt, Stmts, MaybeStmt, choice, call, done, next, without, otherwise, local_action, control, Program}
use Rattle.p4_tree.specs.Tree as tree
use Rattle.p4_meaning.specs.Scope.{full}
use Rattle.own_programs.specs.OwnPrograms.{is_own, program_tells_reports}

given_is_own : is_own (codes "hdr") ≡ true
given_is_own = refl

flag_is_own : is_own (codes "hydra_x_left") ≡ true
flag_is_own = refl

-- with nothing behind it too
prefix_is_mine : is_own (codes "hydra_") ≡ false
prefix_is_mine = refl

monitor_is_mine : is_own (codes "hydra_tele") ≡ false
monitor_is_mine = refl

-- a name whose own letters end the prefix at the point
short_is_own : is_own (full (codes "Ingress") (codes "hydra")) ≡ true
short_is_own = refl

full_is_mine : is_own (full (codes "Ingress") (codes "hydra_report")) ≡ false
full_is_mine = refl

-- a digest to a receiver, told in an action, and behind a test
abbrev digest_to : (receiver : ℕ) → Stmt
digest_to n = call 0 (codes "digest" ∷ []) (one 0 (num 0 (record { width = 0; value = n })) ∷ many 0 (flag 0 true ∷ []) ∷ [])

abbrev acting : Stmts → Program
acting body =
    record {
      at = 0;
      tops = control 0 (record { at = 0; name = codes "Ingress"; params = []; locals = local_action 0 (record { at = 0; name = codes "tell"; params = []; body = body }) ∷ []; apply = done }) ∷ [];
      main = [];
    }

abbrev applying : Stmts → Program
applying body = record { at = 0; tops = control 0 (record { at = 0; name = codes "Ingress"; params = []; locals = []; apply = body }) ∷ []; main = [] }

action_tells : program_tells_reports (acting (next (digest_to 1213809746) done)) ≡ true
action_tells = refl

else_tells : program_tells_reports (applying (next (choice 0 (flag 0 true) (tree.nothing 0) (otherwise (digest_to 1213809746))) done)) ≡ true
else_tells = refl

-- a written number is cut to 32 bits
cut_tells : program_tells_reports (applying (next (digest_to 5508777042) done)) ≡ true
cut_tells = refl

other_is_quiet : program_tells_reports (acting (next (digest_to 1) done)) ≡ false
other_is_quiet = refl
