-- The sums of a property: its weight, the bits of its telemetry, and how often a control variable is read.
use Rattle.std.specs.Prelude.{◌≡◌, ℕ, ◌+◌, ◌*◌, min, List, [], ◌∷◌, slice_get, Bool, true, false, Option, Some, None, if◌then◌else◌}
use Rattle.lex_text.specs.Names.{same_text}
use Rattle.indus_tree.specs.Tree.{Expr, Exprs, none, more, num, flag, read, count, index, member, negation, inversion, binary, cast, Stmt, Stmts, done, next, assign, cell, push, choice, loop, reject, report, Shape, one, list, Decl, Property}
use Rattle.indus_tree.specs.State.{lookup, shape_size, width_of}
use Rattle.indus_tree.specs.declared.tree.DeclKind.{DeclKind}
use Rattle.indus_tree.specs.declared.tree.DeclKind.TheVariants.{Tele, Sensor, Control}

-- the number, or the greatest of 32 bits where that is smaller
abbrev pub cut : ℕ → ℕ
cut n = min n 4294967295

-- and of 64 bits
abbrev pub cut_wide : ℕ → ℕ
cut_wide n = min n 18446744073709551615

-- ---- lists

abbrev pub size_in : Option Decl → ℕ
size_in None = 0
size_in (Some d) = shape_size d.shape

-- the size of a list
abbrev pub size_of : List Decl → List ℕ → ℕ
size_of ds x = size_in (lookup ds x)

-- the smallest size of some lists
abbrev pub smallest : List Decl → List (List ℕ) → ℕ
smallest ds [] = 0
smallest ds (x ∷ []) = size_of ds x
smallest ds (x ∷ y ∷ xs) = min (size_of ds x) (smallest ds (y ∷ xs))

abbrev pub shape_is_list : Shape → Bool
shape_is_list (list t n) = true
shape_is_list _ = false

abbrev pub found_list : Option Decl → Bool
found_list None = false
found_list (Some d) = shape_is_list d.shape

abbrev pub is_list : List Decl → List ℕ → Bool
is_list ds x = found_list (lookup ds x)

-- ---- weight

module _ (ds : List Decl) where
  abbrev mutual
    -- the weight of an expression; membership in a list looks at each of its places
    pub expr_weight : Expr → ℕ
    expr_weight (num p n) = 1
    expr_weight (flag p b) = 1
    expr_weight (read p x) = 1
    expr_weight (count p x) = 1
    expr_weight (index p x ks) = exprs_weight ks + 1
    expr_weight (member p ks x) = if is_list ds x then size_of ds x * (exprs_weight ks + 1) + 1 else exprs_weight ks + 1
    expr_weight (negation p a) = expr_weight a + 1
    expr_weight (inversion p a) = expr_weight a + 1
    expr_weight (binary p op a b) = expr_weight a + expr_weight b + 1
    expr_weight (cast p w a) = expr_weight a + 1

    pub exprs_weight : Exprs → ℕ
    exprs_weight none = 0
    exprs_weight (more a rest) = expr_weight a + exprs_weight rest

  abbrev mutual
    -- the weight of a statement; a loop takes as many turns as the smallest of its lists has places
    pub stmt_weight : Stmt → ℕ
    stmt_weight (assign p x e) = expr_weight e + 1
    stmt_weight (cell p x i e) = expr_weight i + expr_weight e + 1
    stmt_weight (push p x e) = expr_weight e + size_of ds x + 1
    stmt_weight (choice p t a b) = expr_weight t + block_weight a + block_weight b + 1
    stmt_weight (loop p ns ls a) = smallest ds ls * (block_weight a + 1) + 1
    stmt_weight (reject p) = 1
    stmt_weight (report p n es) = exprs_weight es + 1

    pub block_weight : Stmts → ℕ
    block_weight done = 0
    block_weight (next s rest) = stmt_weight s + block_weight rest

-- ---- reads

-- how often variable v is read
module _ (v : List ℕ) where
  abbrev pub is_v : List ℕ → ℕ
  is_v x = if same_text x v then 1 else 0

  abbrev mutual
    pub expr_reads : Expr → ℕ
    expr_reads (num p n) = 0
    expr_reads (flag p b) = 0
    expr_reads (read p x) = is_v x
    expr_reads (count p x) = 0
    expr_reads (index p x ks) = exprs_reads ks + is_v x
    expr_reads (member p ks x) = exprs_reads ks + is_v x
    expr_reads (negation p a) = expr_reads a
    expr_reads (inversion p a) = expr_reads a
    expr_reads (binary p op a b) = expr_reads a + expr_reads b
    expr_reads (cast p w a) = expr_reads a

    pub exprs_reads : Exprs → ℕ
    exprs_reads none = 0
    exprs_reads (more a rest) = expr_reads a + exprs_reads rest

-- and a read inside a loop is done as often as the smallest of its lists has places
module _ (ds : List Decl) (v : List ℕ) where
  abbrev mutual
    pub stmt_reads : Stmt → ℕ
    stmt_reads (assign p x e) = expr_reads v e
    stmt_reads (cell p x i e) = expr_reads v i + expr_reads v e
    stmt_reads (push p x e) = expr_reads v e
    stmt_reads (choice p t a b) = expr_reads v t + block_reads a + block_reads b
    stmt_reads (loop p ns ls a) = smallest ds ls * block_reads a
    stmt_reads (reject p) = 0
    stmt_reads (report p n es) = exprs_reads v es

    pub block_reads : Stmts → ℕ
    block_reads done = 0
    block_reads (next s rest) = stmt_reads s + block_reads rest

-- ---- cells, and the whole weight

-- the cells of a sensor
abbrev pub cells_in : DeclKind → Shape → ℕ
cells_in Sensor (list t n) = n
cells_in Sensor s = 1
cells_in _ s = 0

abbrev pub sensor_cells : List Decl → ℕ
sensor_cells [] = 0
sensor_cells (d ∷ ds) = cells_in d.kind d.shape + sensor_cells ds

-- the weight of a property: its three blocks and its sensor cells
abbrev pub property_weight : Property → ℕ
property_weight p = block_weight p.decls p.init + block_weight p.decls p.tele + block_weight p.decls p.check + sensor_cells p.decls

-- how often control variable v is read by a property
abbrev pub lookups : Property → List ℕ → ℕ
lookups p v = block_reads p.decls v p.init + block_reads p.decls v p.tele + block_reads p.decls v p.check

-- ---- bits

-- the bits of a value of a shape; a list has its count besides
abbrev pub shape_bits : Shape → ℕ
shape_bits (one t) = width_of t
shape_bits (list t n) = n * width_of t + 8
shape_bits _ = 0

abbrev pub decl_bits : DeclKind → Shape → ℕ
decl_bits Tele s = shape_bits s
decl_bits _ s = 0

abbrev pub decls_bits : List Decl → ℕ
decls_bits [] = 0
decls_bits (d ∷ ds) = decl_bits d.kind d.shape + decls_bits ds

-- the bits of the telemetry: its first byte and the tele variables
abbrev pub property_bits : Property → ℕ
property_bits p = decls_bits p.decls + 8

-- ---- a control variable by its place among the declarations

abbrev pub named_lookups : Property → Option Decl → ℕ
named_lookups p None = 0
named_lookups p (Some d) = lookups p d.name

-- how often the variable at a place is read
abbrev pub nth_lookups : Property → (variable : ℕ) → ℕ
nth_lookups p variable = named_lookups p (slice_get p.decls variable)

abbrev pub is_control : Option Decl → Type 0
is_control None = ⊥
is_control (Some d) = d.kind ≡ Control

-- at the place is a control variable
abbrev pub IsControl : Property → (variable : ℕ) → Type 0
IsControl p variable = is_control (slice_get p.decls variable)
