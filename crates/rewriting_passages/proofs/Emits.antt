-- What a deparser emits is the same with other values: no argument of its calls is one.
use Rattle.std.proofs.Common.{◌≡◌, codes, ℕ, List, [], ◌∷◌, ◌++◌, map, true, false, not, refl, ap₂}
use Rattle.rule_tests.specs.Tests.{IsFine}
use Rattle.p4_tree.specs.Tree.{Arg, Stmt, Stmts, call, next}
use Rattle.p4_meaning.specs.Scope as meaning
use Rattle.p4_meaning.specs.Under.{arg_under, stmts_under}
use Rattle.p4_meaning.specs.Parts.{emitted, emits_of}
use Rattle.p4_scopes.specs.Scopes.{Stands, missing, typed, held, cells, act, rows, state, function, algorithm, other, Scope}
use Rattle.p4_scopes.specs.declared.thing.Function.TheVariants.{MarkToDrop, Digest, VerifyChecksum, UpdateChecksum}
use Rattle.p4_statement_rules.specs.Forms.{takes_call, plain_form, verb_form}
use Rattle.p4_statement_rules.specs.Statements.{after, stmt_tests, block_tests}
use Rattle.p4_statement_rules.specs.declared.rule.Part.TheVariants as place
use Rattle.rewriting_laws.specs.Standing.{MayStandFor}
use Rattle.rewritten_programs.specs.Rewritten.{StmtRewritten, lone, returns, exits, in_block, in_var, in_assign, in_choice, in_call, BlockRewritten, none_left, first_then}
use Rattle.rewriting_rules.specs.Knows.{Knows}
use Rattle.rewriting_rules.proofs.Knows.{after_knows}
use Rattle.rewriting_rules.proofs.Calls.{CallStands, kept, in_action, in_digest, in_verify, in_update, in_read, in_write, IsCells, read_cells, written_cells, call_stands}

broken : {A : Type 0} → true ≡ false → A
broken h = absurd (cc)

-- no function and no action is called there
plain_out : {A : Type 0} (at : Stands) → not (takes_call place.Deparser (plain_form at)) ≡ false → A
plain_out missing f = broken f
plain_out (typed g t) f = broken f
plain_out (held a t) f = broken f
plain_out (cells k) f = broken f
plain_out (act ks m) f = broken f
plain_out (rows m) f = broken f
plain_out state f = broken f
plain_out (function MarkToDrop) f = broken f
plain_out (function Digest) f = broken f
plain_out (function VerifyChecksum) f = broken f
plain_out (function UpdateChecksum) f = broken f
plain_out algorithm f = broken f
plain_out other f = broken f

-- no register is read, and none is written
read_out : {A : Type 0} (at : Stands) → IsCells MayStandFor at → not (takes_call place.Deparser (verb_form at (codes "read"))) ≡ false → A
read_out (cells k) c f = broken f
read_out _ c f = absurd c

written_out : {A : Type 0} (at : Stands) → IsCells MayStandFor at → not (takes_call place.Deparser (verb_form at (codes "write"))) ≡ false → A
written_out (cells k) c f = broken f
written_out _ c f = absurd c

args_stay : (p : ℕ) (s : Scope) (x : List (List ℕ)) (xs ys : List Arg) → CallStands MayStandFor x xs ys → IsFine (stmt_tests place.Deparser s (call p x xs)) → ys ≡ xs
args_stay p s x xs ys (kept h) f = refl
args_stay p s _ xs ys (in_action x h r) f = plain_out (s (x ∷ [])) f.0
args_stay p s _ _ _ (in_digest n q r) f = plain_out (s (codes "digest" ∷ [])) f.0
args_stay p s _ _ _ (in_verify o q n h r w) f = plain_out (s (codes "verify_checksum" ∷ [])) f.0
args_stay p s _ _ _ (in_update o q n h r w) f = plain_out (s (codes "update_checksum" ∷ [])) f.0
args_stay p s _ xs _ (in_read x t q r) f = read_out (s (x ∷ [])) (read_cells MayStandFor p s _ (s (x ∷ [])) f.1) f.0
args_stay p s _ xs _ (in_write x o q r w) f = written_out (s (x ∷ [])) (written_cells MayStandFor p s _ (s (x ∷ [])) f.1) f.0

pub emits_same : {a b : Stmts} → BlockRewritten MayStandFor a b → (s : Scope) → Knows s → IsFine (block_tests place.Deparser s a) → (sc : meaning.Scope) → emits_of (stmts_under sc b) ≡ emits_of (stmts_under sc a)
emits_same none_left s k f sc = refl
emits_same (first_then {c = c} {d = d} {a = a} {b = b} r q) s k f sc = one r f.0 (emits_same q (after s c) (after_knows place.Deparser s k c f.0) f.1 sc)
  where
    one : {c d : Stmt} → StmtRewritten MayStandFor c d → IsFine (stmt_tests place.Deparser s c) → emits_of (stmts_under sc b) ≡ emits_of (stmts_under sc a) → emits_of (stmts_under sc (next d b)) ≡ emits_of (stmts_under sc (next c a))
    one (lone p) g h = h
    one (returns p) g h = h
    one (exits p) g h = h
    one (in_block p i) g h = h
    one (in_var p t x i) g h = h
    one (in_assign p x i) g h = h
    one (in_choice p i j l) g h = h
    one (in_call {xs = xs} {ys = ys} p x i) g h =
        ap₂ (λ (zs : List Arg) (es : List (List (List ℕ))). emitted (map (arg_under sc) zs) ++ es) (args_stay p s x xs ys (call_stands MayStandFor p s k.core xs ys x i g.1) g) h
