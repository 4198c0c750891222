-- What blocks do. Read `Value` before it and `Hops` after it.
use Rattle.std.specs.Prelude.{ℕ, zero, suc, min, List, [], ◌∷◌, ◌++◌, length, map, slice_get, true, if◌then◌else◌}
use Rattle.bit_values.specs.Bits.{Word}
use Rattle.bit_values.specs.Widths.{holds, either_width, sound_width, cast_word}
use Rattle.network_run.specs.PathMeaning.{Doing}
use Rattle.indus_tree.specs.Tree.{Expr, Stmt, Stmts, assign, cell, push, choice, loop, reject, report, done, next}
use Rattle.indus_tree.specs.State.{Hop, Held, lookup, held_width, nothing_of, set_cell, push_item}
use Rattle.indus_tree.specs.Reads.{Items, Seen, or_word}
use Rattle.indus_tree.specs.Value.{own_width, value_of, values_of}

-- what an expression of a statement sees
abbrev pub seen_by : Hop → Items → Doing Held Held → Seen
seen_by h i d = record { hop = h; items = i; tele = d.tele; sensors = d.sensors }

-- the value that a variable takes, in its own width
abbrev pub value_for : Hop → Items → Doing Held Held → List ℕ → Expr → Word
value_for h i d x e = cast_word (sound_width (held_width (lookup h.decls x))) (value_of (seen_by h i d) e (held_width (lookup h.decls x)))

-- the index of a cell, in which a bare number has 128 bits
abbrev pub index_for : Hop → Items → Doing Held Held → Expr → ℕ
index_for h i d e = (value_of (seen_by h i d) e (either_width (own_width (seen_by h i d) e) 128)).value

-- one report more
abbrev pub reported : ℕ → List Word → Doing Held Held → Doing Held Held
reported n ws d = record d { reports = d.reports ++ (record { number = n; values = ws }) ∷ [] }

-- ---- loops

-- as many turns as the shortest list has items
abbrev pub shortest : List (List Word) → ℕ
shortest [] = 0
shortest (l ∷ []) = length l
shortest (l ∷ m ∷ ls) = min (length l) (shortest (m ∷ ls))

-- the items of turn k, one of each list
abbrev pub turn_items : List (List Word) → (k : ℕ) → List Word
turn_items [] k = []
turn_items (l ∷ ls) k = or_word (slice_get l k) (nothing_of 1) ∷ turn_items ls k

-- the items of the first n turns
abbrev pub first_turns : (n : ℕ) → List (List Word) → List (List Word)
first_turns zero ls = []
first_turns (suc n) ls = first_turns n ls ++ turn_items ls n ∷ []

-- the items of each turn
abbrev pub turns_of : List (List Word) → List (List Word)
turns_of ls = first_turns (shortest ls) ls

-- names for a turn's items
abbrev pub named : List (List ℕ) → List Word → Items
named [] ws = []
named (x ∷ xs) [] = []
named (x ∷ xs) (w ∷ ws) = (x, w) ∷ named xs ws

-- a turn for each list of items, in order
abbrev pub run_turns : (List Word → Doing Held Held → Doing Held Held) → List (List Word) → Doing Held Held → Doing Held Held
run_turns turn [] d = d
run_turns turn (ws ∷ more) d = run_turns turn more (turn ws d)

-- ---- blocks

module _ (h : Hop) where
  abbrev mutual
    -- what a statement does, inside loops with these items
    pub stmt_run : Items → Stmt → Doing Held Held → Doing Held Held
    stmt_run i (assign p x e) d = set_cell (lookup h.decls x) x 0 (value_for h i d x e) d
    stmt_run i (cell p x n e) d = set_cell (lookup h.decls x) x (index_for h i d n) (value_for h i d x e) d
    stmt_run i (push p x e) d = push_item (lookup h.decls x) x (value_for h i d x e) d
    stmt_run i (choice p e a b) d = if holds (value_of (seen_by h i d) e 1) then block_run i a d else block_run i b d
    -- the lists are those at the loop's start
    stmt_run i (loop p xs ls a) d = run_turns (λ ws. block_run (i ++ named xs ws) a) (turns_of (map d.tele ls)) d
    stmt_run i (reject p) d = record d { rejected = true }
    stmt_run i (report p n es) d = reported n (values_of (seen_by h i d) es) d

    -- what a block does: its statements in order
    pub block_run : Items → Stmts → Doing Held Held → Doing Held Held
    block_run i done d = d
    block_run i (next s ss) d = block_run i ss (stmt_run i s d)

  -- what a block does outside loops
  abbrev pub run_of : Stmts → Doing Held Held → Doing Held Held
  run_of ss d = block_run [] ss d
