-- The digests that the code of a block tells.
use Rattle.std.proofs.Common.{◌≡◌, codes, ℕ, suc, ◌+◌, ◌≤◌, List, [], ◌∷◌, ◌++◌, length, Bool, true, false, cond, nat_eq, Option, Some, None, refl, sym, ap, ap₂, ◌∙◌, subst, arith}
use Rattle.std.specs.Prelude.{max}
use Rattle.std.specs.List.{AllByRecursion}
use Rattle.lex_text.specs.Names.{same_text, parent}
use Rattle.indus_tree.specs.Tree as indus
use Rattle.indus_tree.specs.Tree.{Expr, Exprs, num, flag, read as reads_it, count, index, member, negation, inversion, binary, cast, none, more, Shape, one, list, set, dict, Decl}
use Rattle.indus_tree.specs.State.{lookup, shape_width}
use Rattle.indus_tree.specs.declared.tree.DeclKind.{DeclKind}
use Rattle.indus_tree.specs.declared.tree.DeclKind.TheVariants.{Tele, Sensor, Header, Control}
use Rattle.indus_tree.specs.declared.tree.Ty.{Ty}
use Rattle.indus_tree.specs.declared.tree.Ty.TheVariants as ty
use Rattle.p4_tree.specs.Tree as p4
use Rattle.p4_tree.specs.Tree.{Stmt, Stmts, done, next, and_then}
use Rattle.p4_tree.specs.declared.statement.PTy.TheVariants as type
use Rattle.p4_meaning.specs.Scope.{Roots}
use Rattle.p4_scopes.specs.Scopes.{Scope, Stands, missing, typed, held, cells, act, rows, state, function, algorithm, other, add_up}
use Rattle.p4_scopes.specs.Uses.{most_in}
use Rattle.p4_scopes.specs.declared.thing.Thing.{Thing}
use Rattle.p4_scopes.specs.declared.thing.Thing.TheVariants as thing
use Rattle.p4_scopes.specs.declared.thing.Function.TheVariants.{Digest}
use Rattle.p4_statement_rules.specs.Forms.{plain_form, verb_form}
use Rattle.p4_declaration_rules.specs.Digests.{most_of, most_of_stmt, most_of_else, most_of_test, most_of_form}
use Rattle.monitor_laws.specs.Names.{first_name, last_name}
use Rattle.monitor_laws.specs.Trees.{number}
use Rattle.lookup_names.specs.Names as plain
use Rattle.lookup_names.specs.Names.{found_name, key_name}
use Rattle.lookup_names.specs.Keys.{key_types, variable}
use Rattle.lowered_code.specs.Names.{sensor_name}
use Rattle.lowered_code.specs.Environment.{Environment, in_control, rooted_path, switch_name}
use Rattle.lowered_code.specs.Expressions.{value_type, of_bits, read_decl, lowered, lowered_all, name_for, name_by_kind, found_for}
use Rattle.lowered_code.specs.Reads.{cleared, turned, turn, take_sensor, start_of, keys_of, apply, keyed, read_array, read_sensor, read_kind, read_stmts, reads_stmts}
use Rattle.lowered_code.specs.Statements.{set_kind, set_name, set_array, tell, maybe_else, stmt_reads, behind, stmt_end, block_end, with_reads, stmt_code, block_code, control_kind, read_lookups, lookups_in, numbered_reads, stmt_numbers, block_numbers}
use Rattle.lowered_code.proofs.Served.{lookups_both}
use Rattle.monitor_rules.specs.Told.{told_by, told_in, told_before}

abbrev Most : ℕ
Most = 4294967295

add_none : (n : ℕ) → n ≤ Most → add_up 0 n ≡ n
add_none n h = omega (arith, h)

add_low : (a b : ℕ) → add_up a b ≤ Most
add_low a b = omega arith

max_low : (a b : ℕ) → a ≤ Most → b ≤ Most → max a b ≤ Most
max_low a b h k = omega (arith, h, k)

pub told_low : (ss : indus.Stmts) → told_in ss ≤ Most
told_low indus.done = omega arith
told_low (indus.next c ss) = add_low (told_by c) (told_in ss)

pub before_low : (ss : indus.Stmts) (k : ℕ) → k ≤ Most → told_before ss k ≤ Most
before_low indus.done k h = h
before_low (indus.next c ss) k h = add_low (told_by c) (told_before ss k)

by_low : (c : indus.Stmt) → told_by c ≤ Most
by_low (indus.assign p x e) = omega arith
by_low (indus.cell p x i e) = omega arith
by_low (indus.push p x e) = omega arith
by_low (indus.choice p t a b) = max_low (told_in a) (told_in b) (told_low a) (told_low b)
by_low (indus.loop p xs ls a) = omega arith
by_low (indus.reject p) = omega arith
by_low (indus.report p n es) = omega arith

then_then : (a b c : Stmts) → and_then (and_then a b) c ≡ and_then a (and_then b c)
then_then done b c = refl
then_then (next s a) b c = ap (next s) (then_then a b c)

module _ (sc : Scope) where
  -- a cell of a register is read or written, whatever stands there
  form_silent : (st : Stands) (x : List (List ℕ)) → most_of_form sc (verb_form st (codes "read")) x ≡ 0
  form_silent missing x = refl
  form_silent (typed f th) x = refl
  form_silent (held a th) x = go th
    where
      go : (th : Thing) → most_of_form sc (verb_form (held a th) (codes "read")) x ≡ 0
      go (thing.Scalar k) = refl
      go (thing.Header n) = refl
      go thing.Struct = refl
      go thing.Standard = refl
      go thing.PacketIn = refl
      go thing.PacketOut = refl
  form_silent (cells k) x = refl
  form_silent (act ks m) x = refl
  form_silent (rows m) x = refl
  form_silent state x = refl
  form_silent (function f) x = refl
  form_silent algorithm x = refl
  form_silent other x = refl

  write_silent : (st : Stands) (x : List (List ℕ)) → most_of_form sc (verb_form st (codes "write")) x ≡ 0
  write_silent missing x = refl
  write_silent (typed f th) x = refl
  write_silent (held a th) x = go th
    where
      go : (th : Thing) → most_of_form sc (verb_form (held a th) (codes "write")) x ≡ 0
      go (thing.Scalar k) = refl
      go (thing.Header n) = refl
      go thing.Struct = refl
      go thing.Standard = refl
      go thing.PacketIn = refl
      go thing.PacketOut = refl
  write_silent (cells k) x = refl
  write_silent (act ks m) x = refl
  write_silent (rows m) x = refl
  write_silent state x = refl
  write_silent (function f) x = refl
  write_silent algorithm x = refl
  write_silent other x = refl

  abbrev Silent : Stmts → Type 0
  Silent done = Unit {0}
  Silent (next c ss) = (most_of_stmt sc c ≡ 0) × Silent ss

  silent_both : (a b : Stmts) → Silent a → Silent b → Silent (and_then a b)
  silent_both done b h k = k
  silent_both (next c a) b h k = (h.0, silent_both a b h.1 k)

  silent_then : (a b : Stmts) (n : ℕ) → Silent a → most_of sc b ≡ n → n ≤ Most → most_of sc (and_then a b) ≡ n
  silent_then done b n h e low = e
  silent_then (next c a) b n h e low = ap₂ add_up h.0 (silent_then a b n h.1 e low) ∙ add_none n low

  silent_none : (a : Stmts) → Silent a → most_of sc a ≡ 0
  silent_none done h = refl
  silent_none (next c a) h = ap₂ add_up h.0 (silent_none a h.1)

  -- the tables of lookups tell nothing
  abbrev pub TablesSilent : List (ℕ × Decl) → Type 0
  TablesSilent ls = AllByRecursion (λ l. most_in (sc (plain.table_name l.0 ∷ [])) ≡ 0) ls

  -- a table is applied, whatever stands there
  apply_silent : (st : Stands) (x : List ℕ) → sc (x ∷ []) ≡ st → most_in st ≡ 0 → most_of_form sc (verb_form st (codes "apply")) (x ∷ codes "apply" ∷ []) ≡ 0
  apply_silent missing x e h = refl
  apply_silent (typed f th) x e h = refl
  apply_silent (held a th) x e h = go th
    where
      go : (th : Thing) → most_of_form sc (verb_form (held a th) (codes "apply")) (x ∷ codes "apply" ∷ []) ≡ 0
      go (thing.Scalar k) = refl
      go (thing.Header n) = refl
      go thing.Struct = refl
      go thing.Standard = refl
      go thing.PacketIn = refl
      go thing.PacketOut = refl
  apply_silent (cells k) x e h = refl
  apply_silent (act ks m) x e h = refl
  apply_silent (rows m) x e h = ap most_in e ∙ h
  apply_silent state x e h = refl
  apply_silent (function f) x e h = refl
  apply_silent algorithm x e h = refl
  apply_silent other x e h = refl

  module _ (r : Roots) (ds : List Decl) where
    abbrev A : Environment
    A = in_control r

    turn_silent : (n w start : ℕ) → Silent (turn n w start)
    turn_silent n w start = go (nat_eq start 0)
      where
        go : (b : Bool) → Silent (cond b done (next (p4.assign 0 (found_name n ∷ []) (turned start w (variable (found_name n)))) done))
        go true = tt
        go false = (refl, tt)

    sensor_silent : (n : ℕ) (d : Decl) (i : p4.Expr) → Silent (take_sensor n d i)
    sensor_silent n d i = (form_silent (sc (sensor_name d.name ∷ [])) (sensor_name d.name ∷ codes "read" ∷ []), turn_silent n (shape_width d.shape) (start_of d))

    module _ (base : ℕ) where
      keyed_silent : (l : List Expr) (n i : ℕ) (ts : List Ty) (ks : Exprs) (rest : Stmts) → Silent rest → Silent (keyed A ds base l n i ts ks rest)
      keyed_silent l n i [] ks rest h = h
      keyed_silent l n i (t ∷ ts) none rest h = h
      keyed_silent l n i (t ∷ ts) (more e es) rest h = (refl, keyed_silent l n (suc i) ts es rest h)

      array_silent : (l : List Expr) (n : ℕ) (d : Decl) (size : ℕ) (ks : Exprs) → Silent (read_array A ds base l n d size ks)
      array_silent l n d size none = tt
      array_silent l n d size (more e es) = (refl, (refl, (ap (λ k. add_up 0 (max k 0)) (silent_none (take_sensor n d (variable (key_name n 0))) (sensor_silent n d (variable (key_name n 0)))), tt)))

      shape_silent : (l : List Expr) (n : ℕ) (d : Decl) (s : Shape) (ks : Exprs) → Silent (read_sensor A ds base l n d s ks)
      shape_silent l n d (one t) ks = sensor_silent n d (number 1 0)
      shape_silent l n d (list t size) ks = array_silent l n d size ks
      shape_silent l n d (set ts) ks = tt
      shape_silent l n d (dict ts t) ks = tt

      cleared_silent : (n : ℕ) (s : Shape) → Silent (cleared n s)
      cleared_silent n (one t) = tt
      cleared_silent n (list t size) = tt
      cleared_silent n (set ts) = (refl, tt)
      cleared_silent n (dict ts t) = (refl, tt)

      kind_silent : (k : DeclKind) (l : List Expr) (n : ℕ) (d : Decl) (ks : Exprs) → TablesSilent (control_kind k n d) → Silent (read_kind A ds base k l n d ks)
      kind_silent Tele l n d ks h = tt
      kind_silent Sensor l n d ks h = shape_silent l n d d.shape ks
      kind_silent Header l n d ks h = tt
      kind_silent Control l n d ks h =
          let found = next (apply A ds base n) done in
          silent_both (cleared n d.shape) (keyed A ds base l n 0 (key_types d.shape) ks found) (cleared_silent n d.shape)
          (keyed_silent l n 0 (key_types d.shape) ks found (apply_silent (sc (plain.table_name n ∷ [])) (plain.table_name n) refl h.0, tt))

      one_silent : (o : Option Decl) (l : List Expr) (n : ℕ) (ks : Exprs) → TablesSilent (read_lookups n o) → Silent (read_stmts A ds base o l n ks)
      one_silent None l n ks h = tt
      one_silent (Some d) l n ks h = kind_silent d.kind l n d ks h

    left_tables : (a b : List (ℕ × Decl)) → TablesSilent (a ++ b) → TablesSilent a
    left_tables [] b h = tt
    left_tables (x ∷ a) b h = (h.0, left_tables a b h.1)

    right_tables : (a b : List (ℕ × Decl)) → TablesSilent (a ++ b) → TablesSilent b
    right_tables [] b h = h
    right_tables (x ∷ a) b h = right_tables a b h.1

    reads_silent : (base : ℕ) (l : List Expr) (n : ℕ) (es : List Expr) → TablesSilent (lookups_in (numbered_reads ds n es)) → Silent (reads_stmts A ds base l n es)
    reads_silent base l n [] h = tt
    reads_silent base l n (e ∷ es) h =
        let here = read_lookups n (read_decl ds e) in
        let rest = lookups_in (numbered_reads ds (suc n) es) in
        silent_both (read_stmts A ds base (read_decl ds e) l n (keys_of e)) (reads_stmts A ds base (l ++ e ∷ []) (suc n) es) (one_silent base (read_decl ds e) l n (keys_of e) (left_tables here rest h)) (reads_silent base (l ++ e ∷ []) (suc n) es (right_tables here rest h))

    set_silent : (o : Option Decl) (x : List ℕ) (v : p4.Expr) → Silent (set_name A o x v)
    set_silent None x v = tt
    set_silent (Some d) x v = go d.kind
      where
        go : (k : DeclKind) → Silent (set_kind A k d x v)
        go Tele = (refl, tt)
        go Sensor = (write_silent (sc (sensor_name d.name ∷ [])) (sensor_name d.name ∷ codes "write" ∷ []), tt)
        go Header = tt
        go Control = tt

    cell_silent : (o : Option Decl) (i v : p4.Expr) → Silent (set_array o i v)
    cell_silent None i v = tt
    cell_silent (Some d) i v = (write_silent (sc (sensor_name d.name ∷ [])) (sensor_name d.name ∷ codes "write" ∷ []), tt)

    -- ---- tests

    abbrev Quiet_test : p4.Expr → Type 0
    Quiet_test e = most_of_test sc e ≡ 0

    abbrev Never : p4.Expr → Type 0
    Never (p4.applied p t b) = ⊥
    Never _ = Unit {0}

    negated_quiet : (e : p4.Expr) → Never e → Quiet_test (p4.negation 0 e)
    negated_quiet (p4.applied q x b) i = absurd i
    negated_quiet (p4.num q n) i = refl
    negated_quiet (p4.flag q b) i = refl
    negated_quiet (p4.path q x) i = refl
    negated_quiet (p4.valid q x) i = refl
    negated_quiet (p4.error_name q x) i = refl
    negated_quiet (p4.negation q a) i = refl
    negated_quiet (p4.inversion q a) i = refl
    negated_quiet (p4.opposite q a) i = refl
    negated_quiet (p4.binary q o a b) i = refl
    negated_quiet (p4.conditional q x a b) i = refl
    negated_quiet (p4.slice q a m k) i = refl
    negated_quiet (p4.cast q y a) i = refl

    module _ (base : ℕ) (l : List Expr) (P : p4.Expr → Type 0) (paths : (p : List (List ℕ)) → P (p4.path 0 p)) (valids : (p : List (List ℕ)) → P (p4.valid 0 p)) (casts : (e : p4.Expr) → P (p4.cast 0 type.Bool e)) (flags : P (p4.flag 0 false)) where
      of_any : (t : Ty) (p : List (List ℕ)) → P (of_bits t (p4.path 0 p))
      of_any (ty.Bit w) p = paths p
      of_any ty.Bool p = casts (p4.path 0 p)

      name_any : (e : Expr) (x : List ℕ) (o : Option Decl) → P (name_for A ds base l o e x)
      name_any e x None = go (same_text x (codes "first_hop")) (same_text x (codes "last_hop"))
        where
          go : (a b : Bool) → P (cond a (variable first_name) (cond b (variable last_name) (p4.path 0 (switch_name ∷ []))))
          go true b = paths _
          go false true = paths _
          go false false = paths _
      name_any e x (Some c) = go c.kind
        where
          go : (k : DeclKind) → P (name_by_kind A ds base l k e x c)
          go Tele = of_any (value_type c.shape) _
          go Sensor = of_any (value_type c.shape) _
          go Header = view c.valid
            where
              view : (b : Bool) → P (cond b (p4.valid 0 (rooted_path r (parent c.path))) (p4.path 0 (rooted_path r c.path)))
              view true = valids _
              view false = paths _
          go Control = of_any (value_type c.shape) _

      held_any : (e : Expr) (o : Option Decl) → P (found_for A ds base l o e)
      held_any e None = flags
      held_any e (Some c) = of_any (value_type c.shape) _

    never : (base : ℕ) (l : List Expr) (e : Expr) → Never (lowered A ds base l e)
    never base l (num p n) = tt
    never base l (flag p b) = tt
    never base l (reads_it p x) = name_any base l Never (λ p. tt) (λ p. tt) (λ e. tt) tt (reads_it p x) x (lookup ds x)
    never base l (count p x) = tt
    never base l (index p x ks) = held_any base l Never (λ p. tt) (λ p. tt) (λ e. tt) tt (index p x ks) (lookup ds x)
    never base l (member p ks x) = held_any base l Never (λ p. tt) (λ p. tt) (λ e. tt) tt (member p ks x) (lookup ds x)
    never base l (negation p a) = tt
    never base l (inversion p a) = tt
    never base l (binary p o a b) = tt
    never base l (cast p v a) = tt

    test_quiet : (base : ℕ) (l : List Expr) (e : Expr) → Quiet_test (lowered A ds base l e)
    test_quiet base l (num p n) = refl
    test_quiet base l (flag p b) = refl
    test_quiet base l (reads_it p x) = name_any base l Quiet_test (λ p. refl) (λ p. refl) (λ e. refl) refl (reads_it p x) x (lookup ds x)
    test_quiet base l (count p x) = refl
    test_quiet base l (index p x ks) = held_any base l Quiet_test (λ p. refl) (λ p. refl) (λ e. refl) refl (index p x ks) (lookup ds x)
    test_quiet base l (member p ks x) = held_any base l Quiet_test (λ p. refl) (λ p. refl) (λ e. refl) refl (member p ks x) (lookup ds x)
    test_quiet base l (negation p a) = negated_quiet (lowered A ds base l a) (never base l a)
    test_quiet base l (inversion p a) = refl
    test_quiet base l (binary p o a b) = refl
    test_quiet base l (cast p v a) = refl

    else_told : (a : Stmts) → most_of_else sc (maybe_else a) ≡ most_of sc a
    else_told done = refl
    else_told (next c a) = refl

    both_are : (xs ys : List (ℕ × Option Decl)) → lookups_in (xs ++ ys) ≡ lookups_in xs ++ lookups_in ys
    both_are xs ys = lookups_both ds xs ys

    left_reads : (xs ys : List (ℕ × Option Decl)) → TablesSilent (lookups_in (xs ++ ys)) → TablesSilent (lookups_in xs)
    left_reads xs ys h = left_tables (lookups_in xs) (lookups_in ys) (subst TablesSilent (both_are xs ys) h)

    right_reads : (xs ys : List (ℕ × Option Decl)) → TablesSilent (lookups_in (xs ++ ys)) → TablesSilent (lookups_in ys)
    right_reads xs ys h = right_tables (lookups_in xs) (lookups_in ys) (subst TablesSilent (both_are xs ys) h)

    module _ (digest : sc (codes "digest" ∷ []) ≡ function Digest) where
      -- a statement behind its reads, and what stands behind both
      with_told : (n : ℕ) (c : indus.Stmt) (f : List Expr → Stmts) (rest : Stmts) (k : ℕ) → TablesSilent (lookups_in (numbered_reads ds n (stmt_reads ds c))) → most_of sc (and_then (f (stmt_reads ds c)) rest) ≡ k → k ≤ Most → most_of sc (and_then (with_reads A ds n c f) rest) ≡ k
      with_told n c f rest k h e low =
          let l = stmt_reads ds c in
          ap (most_of sc) (then_then (reads_stmts A ds n [] n l) (f l) rest) ∙ silent_then (reads_stmts A ds n [] n l) (and_then (f l) rest) k (reads_silent n [] n l h) e low

      silent_told : (a rest : Stmts) (k : ℕ) → Silent a → most_of sc rest ≡ k → k ≤ Most → most_of sc (and_then a rest) ≡ add_up 0 k
      silent_told a rest k h e low = silent_then a rest k h e low ∙ sym (add_none k low)

      zero_low : (k : ℕ) → k ≤ Most → add_up 0 k ≤ Most
      zero_low k h = add_low 0 k

      mutual
        stmt_told : (c : indus.Stmt) (n : ℕ) (rest : Stmts) (k : ℕ) → TablesSilent (lookups_in (stmt_numbers ds c n)) → most_of sc rest ≡ k → k ≤ Most → most_of sc (and_then (stmt_code A ds c n) rest) ≡ add_up (told_by c) k
        stmt_told (indus.assign p x e) n rest k h is low =
            let l = stmt_reads ds (indus.assign p x e) in
            with_told n (indus.assign p x e) (λ l. set_name A (lookup ds x) x (lowered A ds n l e)) rest (add_up 0 k) h (silent_told (set_name A (lookup ds x) x (lowered A ds n l e)) rest k (set_silent (lookup ds x) x (lowered A ds n l e)) is low) (zero_low k low)
        stmt_told (indus.cell p x i e) n rest k h is low =
            let l = stmt_reads ds (indus.cell p x i e) in
            with_told n (indus.cell p x i e) (λ l. set_array (lookup ds x) (lowered A ds n l i) (lowered A ds n l e)) rest (add_up 0 k) h
            (silent_told (set_array (lookup ds x) (lowered A ds n l i) (lowered A ds n l e)) rest k (cell_silent (lookup ds x) (lowered A ds n l i) (lowered A ds n l e)) is low) (zero_low k low)
        stmt_told (indus.push p x e) n rest k h is low = is ∙ sym (add_none k low)
        stmt_told (indus.choice p t a b) n rest k h is low =
            let c = indus.choice p t a b in
            let l = stmt_reads ds c in
            let m = behind ds c n in
            let j = block_end ds a m in
            let here = numbered_reads ds n l in
            let na = block_numbers ds a m in
            let nb = block_numbers ds b j in
            let tables = right_reads here (na ++ nb) h in
            with_told n c
            (λ l. next (p4.choice 0 (lowered A ds n l t) (p4.block 0 (block_code A ds a (n + length l))) (maybe_else (block_code A ds b (block_end ds a (n + length l))))) done) rest (add_up (told_by c) k) (left_reads here (na ++ nb) h)
            (ap₂ add_up
            (ap₂ add_up (test_quiet n l t) (ap₂ max (block_told a m (left_reads na nb tables)) (else_told (block_code A ds b j) ∙ block_told b j (right_reads na nb tables))) ∙ add_none (max (told_in a) (told_in b)) (max_low (told_in a) (told_in b) (told_low a) (told_low b))) is)
            (add_low (told_by c) k)
        stmt_told (indus.loop p xs ls a) n rest k h is low = is ∙ sym (add_none k low)
        stmt_told (indus.reject p) n rest k h is low = ap (add_up 0) is
        stmt_told (indus.report p m es) n rest k h is low =
            with_told n (indus.report p m es) (λ l. next (tell m (lowered_all A ds n l es)) done) rest (add_up 1 k) h (ap₂ add_up (ap (λ st. most_of_form sc (plain_form st) (codes "digest" ∷ [])) digest) is) (add_low 1 k)

        pub block_told : (ss : indus.Stmts) (n : ℕ) → TablesSilent (lookups_in (block_numbers ds ss n)) → most_of sc (block_code A ds ss n) ≡ told_in ss
        block_told indus.done n h = refl
        block_told (indus.next c ss) n h =
            let m = stmt_end ds c n in
            stmt_told c n (block_code A ds ss m) (told_in ss) (left_reads (stmt_numbers ds c n) (block_numbers ds ss m) h) (block_told ss m (right_reads (stmt_numbers ds c n) (block_numbers ds ss m) h)) (told_low ss)

      pub block_before : (ss : indus.Stmts) (n : ℕ) (rest : Stmts) (k : ℕ) → TablesSilent (lookups_in (block_numbers ds ss n)) → most_of sc rest ≡ k → k ≤ Most → most_of sc (and_then (block_code A ds ss n) rest) ≡ told_before ss k
      block_before indus.done n rest k h is low = is
      block_before (indus.next c ss) n rest k h is low =
          let m = stmt_end ds c n in
          ap (most_of sc) (then_then (stmt_code A ds c n) (block_code A ds ss m) rest)
          ∙ stmt_told c n (and_then (block_code A ds ss m) rest) (told_before ss k) (left_reads (stmt_numbers ds c n) (block_numbers ds ss m) h) (block_before ss m rest k (right_reads (stmt_numbers ds c n) (block_numbers ds ss m) h) is low) (before_low ss k low)
