-- What a rewritten call is for: the rewritten act. So a test applies the same table, rewritten or not.
use Rattle.std.proofs.Common.{◌≡◌, codes, ℕ, List, [], ◌∷◌, map, Bool, true, false, not, cond, Option, refl, ap}
use Rattle.std.specs.Option.{option_map}
use Rattle.lex_text.specs.Names.{same_text}
use Rattle.p4_tree.specs.Tree.{Expr, num, flag, path, valid, applied, error_name, negation, inversion, opposite, binary, conditional, slice, cast, Arg, one, many}
use Rattle.p4_meaning.specs.Statements.{Act, makes, drops, reads, writes, tells, sums, runs, applies, idle, read_of, write_of, digest_of, sum_of, values_in, act_named, act_on, act_on_header, act_of, application}
use Rattle.packet_lengths.specs.Lengths.{plain_path, plain_expr, plain_arg}

abbrev pub plain_act : Act → Act
plain_act (makes h b) = makes h b
plain_act drops = drops
plain_act (reads x t i) = reads x (plain_path t) (plain_expr i)
plain_act (writes x i v) = writes x (plain_expr i) (plain_expr v)
plain_act (tells n es) = tells n (map plain_expr es)
plain_act (sums verifies c es field) = sums verifies (plain_expr c) (map plain_expr es) (plain_path field)
plain_act (runs x es) = runs x (map plain_expr es)
plain_act (applies x) = applies x
plain_act idle = idle

-- each form of call
plain_read : (x : List ℕ) (args : List Arg) → read_of x (map plain_arg args) ≡ plain_act (read_of x args)
plain_read x (one p (path q t) ∷ one r i ∷ []) = refl
plain_read x _ = refl

plain_write : (x : List ℕ) (args : List Arg) → write_of x (map plain_arg args) ≡ plain_act (write_of x args)
plain_write x (one p i ∷ one q v ∷ []) = refl
plain_write x _ = refl

plain_digest : (args : List Arg) → digest_of (map plain_arg args) ≡ plain_act (digest_of args)
plain_digest (one p (num q n) ∷ many r es ∷ []) = refl
plain_digest _ = refl

plain_sum : (verifies : Bool) (args : List Arg) → sum_of verifies (map plain_arg args) ≡ plain_act (sum_of verifies args)
plain_sum verifies (one p c ∷ many q es ∷ one r (path t field) ∷ one u h ∷ []) = refl
plain_sum verifies _ = refl

plain_values : (args : List Arg) → values_in (map plain_arg args) ≡ map plain_expr (values_in args)
plain_values [] = refl
plain_values (one p e ∷ args) = ap (λ es. plain_expr e ∷ es) (plain_values args)
plain_values (many p es ∷ args) = plain_values args

-- one of two acts, by the same test
either_act : (t : Bool) (x x' y y' : Act) → x' ≡ plain_act x → y' ≡ plain_act y → cond t x' y' ≡ plain_act (cond t x y)
either_act true x x' y y' e f = e
either_act false x x' y y' e f = f

plain_named : (x : List ℕ) (args : List Arg) → act_named x (map plain_arg args) ≡ plain_act (act_named x args)
plain_named x args =
    either_act (same_text x (codes "mark_to_drop")) _ _ _ _ refl
    (either_act (same_text x (codes "digest")) _ _ _ _ (plain_digest args)
    (either_act (same_text x (codes "verify_checksum")) _ _ _ _ (plain_sum true args)
    (either_act (same_text x (codes "update_checksum")) _ _ _ _ (plain_sum false args) (ap (runs x) (plain_values args)))))

plain_on : (x verb : List ℕ) (args : List Arg) → act_on x verb (map plain_arg args) ≡ plain_act (act_on x verb args)
plain_on x verb args =
    either_act (same_text verb (codes "read")) _ _ _ _ (plain_read x args)
    (either_act (same_text verb (codes "write")) _ _ _ _ (plain_write x args)
    (either_act (same_text verb (codes "apply")) _ _ _ _ refl refl))

plain_on_header : (h : List (List ℕ)) (verb : List ℕ) → act_on_header h verb ≡ plain_act (act_on_header h verb)
plain_on_header h verb =
    either_act (same_text verb (codes "setValid")) _ _ _ _ refl
    (either_act (same_text verb (codes "setInvalid")) _ _ _ _ refl refl)

-- a call
pub plain_acts : (p : List (List ℕ)) (args : List Arg) → act_of p (map plain_arg args) ≡ plain_act (act_of p args)
plain_acts [] args = refl
plain_acts (x ∷ []) args = plain_named x args
plain_acts (x ∷ verb ∷ []) args = plain_on x verb args
plain_acts (x ∷ y ∷ verb ∷ []) args = plain_on_header (x ∷ y ∷ []) verb
plain_acts (x ∷ y ∷ z ∷ w ∷ rest) args = refl

-- the table that a test applies
pub plain_application : (e : Expr) → application (plain_expr e) ≡ application e
plain_application (num p n) = refl
plain_application (flag p b) = refl
plain_application (path p names) = refl
plain_application (valid p header) = refl
plain_application (applied p table hit) = refl
plain_application (error_name p x) = refl
plain_application (negation p a) = ap (λ (o : Option (List ℕ × Bool)). option_map (λ (t : List ℕ × Bool). (t.0, not t.1)) o) (plain_application a)
plain_application (inversion p a) = refl
plain_application (opposite p a) = refl
plain_application (binary p op a b) = refl
plain_application (conditional p t a b) = refl
plain_application (slice p a high low) = refl
plain_application (cast p ty a) = refl
