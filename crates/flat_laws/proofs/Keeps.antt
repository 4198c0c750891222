-- What a loop walks is left alone by its body.
use Rattle.std.proofs.Common.{◌≡◌, ℕ, zero, suc, List, [], ◌∷◌, ◌++◌, map, Bool, true, false, ◌||◌, cond, Option, Some, None, refl, sym, ap, ◌∙◌, subst}
use Rattle.bit_values.specs.Bits.{Word}
use Rattle.bit_values.specs.Widths.{holds}
use Rattle.lex_text.specs.Names.{same_text}
use Rattle.network_run.specs.PathMeaning.{Doing}
use Rattle.indus_tree.specs.Tree.{Shape, one, list, set, dict, Decl, Expr, Stmt, Stmts, assign, cell, push, choice, loop, reject, report, done, next}
use Rattle.indus_tree.specs.State.{Hop, Held, lookup, set_cell, set_by_kind, push_item, push_by_kind, shape_size, pushed, put_cell}
use Rattle.indus_tree.specs.Reads.{Items}
use Rattle.indus_tree.specs.Value.{value_of}
use Rattle.indus_tree.specs.Meaning.{seen_by, value_for, index_for, named, turns_of, run_turns, stmt_run, block_run}
use Rattle.indus_tree.specs.declared.tree.DeclKind.{DeclKind}
use Rattle.indus_tree.specs.declared.tree.DeclKind.TheVariants.{Tele, Sensor, Header, Control}
use Rattle.indus_tree.specs.declared.tree.Ty.{Ty}
use Rattle.indus_scopes.specs.Scopes.{Around, Sight}
use Rattle.indus_scopes.specs.Items.{among}
use Rattle.indus_rules.specs.Rules.{walked}
use Rattle.flat_laws.proofs.NameLemmas.{apart}
use Rattle.flat_laws.proofs.Writes.{put_other}
use Rattle.flat_laws.proofs.States.{some_is}
use Rattle.flat_laws.proofs.Suits.{StmtSuits, BlockSuits}
use Rattle.flat_laws.proofs.Roles.{IsList, counted, Writable, in_packet, in_switch, written_name, IsSensor, cell_name, AreShapely}
use Rattle.flat_laws.proofs.Values.{IsReady}

one_list : (t : Ty) (u : Ty) (n : ℕ) → one t ≡ list u n → ⊥
one_list t u n e = cc e

-- a scalar is no list
scalar_not : (ds : List Decl) (x l : List ℕ) (d : Decl) (t : Ty) → lookup ds x ≡ Some d → d.shape ≡ one t → IsList ds l → x ≡ l → ⊥
scalar_not ds x l d t e q is same =
    let one_decl : d ≡ is.decl = some_is d is.decl (sym e ∙ ap (lookup ds) same ∙ is.found) in
    one_list t is.item is.size (sym q ∙ ap (λ (a : Decl). a.shape) one_decl ∙ is.shape)

walked_not : (ls : List Around) (x l : List ℕ) → walked ls x ≡ false → walked ls l ≡ true → x ≡ l → ⊥
walked_not ls x l e w same = let both : true ≡ false = sym w ∙ ap (walked ls) (sym same) ∙ e in cc

pub turns_leave : (turn : List Word → Doing Held Held → Doing Held Held) (l : List ℕ) → ((ws : List Word) (d : Doing Held Held) → (turn ws d).tele l ≡ d.tele l) → (rows : List (List Word)) (d : Doing Held Held) → (run_turns turn rows d).tele l ≡ d.tele l
turns_leave turn l h [] d = refl
turns_leave turn l h (ws ∷ rows) d = turns_leave turn l h rows (turn ws d) ∙ h ws d

either_leaves : (b : Bool) (c d s : Doing Held Held) (l : List ℕ) → c.tele l ≡ s.tele l → d.tele l ≡ s.tele l → (cond b c d).tele l ≡ s.tele l
either_leaves true c d s l e f = e
either_leaves false c d s l e f = f

or_true : (a b : Bool) → b ≡ true → (a || b) ≡ true
or_true true b e = refl
or_true false b e = e

module _ (g : Sight) (r : IsReady g.decls) (h0 : Hop) (l : List ℕ) (is : IsList g.decls l) where
  abbrev hop : Hop
  hop = record h0 { decls = g.decls }

  written_leaves : (x : List ℕ) (w : Word) (d : Doing Held Held) → Writable g.decls x → (set_cell (lookup g.decls x) x 0 w d).tele l ≡ d.tele l
  written_leaves x w d (in_packet v t e k q) =
      ap (λ o. (set_cell o x 0 w d).tele l) e
      ∙ ap (λ c. (set_by_kind c x 0 w d).tele l) k
      ∙ put_other d.tele x (put_cell (d.tele x) 0 w) l (apart x l (scalar_not g.decls x l v t e q is))
  written_leaves x w d (in_switch v e k) = ap (λ o. (set_cell o x 0 w d).tele l) e ∙ ap (λ c. (set_by_kind c x 0 w d).tele l) k

  cell_leaves : (x : List ℕ) (m : ℕ) (w : Word) (d : Doing Held Held) → IsSensor g.decls x → (set_cell (lookup g.decls x) x m w d).tele l ≡ d.tele l
  cell_leaves x m w d c = ap (λ o. (set_cell o x m w d).tele l) c.found ∙ ap (λ k. (set_by_kind k x m w d).tele l) c.kind

  push_leaves : (x : List ℕ) (w : Word) (d : Doing Held Held) → IsList g.decls x → (x ≡ l → ⊥) → (push_item (lookup g.decls x) x w d).tele l ≡ d.tele l
  push_leaves x w d c ne =
      ap (λ o. (push_item o x w d).tele l) c.found
      ∙ ap (λ k. (push_by_kind k (shape_size c.decl.shape) x w d).tele l) c.kind
      ∙ put_other d.tele x (pushed (shape_size c.decl.shape) (d.tele x) w) l (apart x l ne)

  mutual
    pub stmt_leaves : (c : Stmt) (ls : List Around) → StmtSuits c (record g { loops = ls }) → walked ls l ≡ true → (i : Items) (d : Doing Held Held) → (stmt_run hop i c d).tele l ≡ d.tele l
    stmt_leaves (assign p x e) ls u w i d = written_leaves x (value_for hop i d x e) d (written_name (record g { loops = ls }) x u.0 u.1 u.2)
    stmt_leaves (cell p x n e) ls u w i d = cell_leaves x (index_for hop i d n) (value_for hop i d x e) d (cell_name (record g { loops = ls }) x r.shapely u.0 u.1 u.2)
    stmt_leaves (push p x e) ls u w i d = push_leaves x (value_for hop i d x e) d (counted (record g { loops = ls }) x u.0 u.1) (walked_not ls x l u.2 w)
    stmt_leaves (choice p t a b) ls u w i d = either_leaves (holds (value_of (seen_by hop i d) t 1)) (block_run hop i a d) (block_run hop i b d) d l (block_leaves a ls u.1 w i d) (block_leaves b ls u.2 w i d)
    stmt_leaves (loop p ns lists a) ls u w i d =
        turns_leave (λ ws. block_run hop (i ++ named ns ws) a) l
        (λ ws c. block_leaves a ((record { names = ns; lists = lists }) ∷ ls) u.3 (or_true (among lists l) (walked ls l) w) (i ++ named ns ws) c)
        (turns_of (map d.tele lists)) d
    stmt_leaves (reject p) ls u w i d = refl
    stmt_leaves (report p n es) ls u w i d = refl

    pub block_leaves : (c : Stmts) (ls : List Around) → BlockSuits c (record g { loops = ls }) → walked ls l ≡ true → (i : Items) (d : Doing Held Held) → (block_run hop i c d).tele l ≡ d.tele l
    block_leaves done ls u w i d = refl
    block_leaves (next c rest) ls u w i d = block_leaves rest ls u.1 w i (stmt_run hop i c d) ∙ stmt_leaves c ls u.0 w i d
