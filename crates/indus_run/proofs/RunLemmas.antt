-- The turns of a loop, and what follows from a call that went well.
use Rattle.std.proofs.Common.{◌≡◌, ℕ, List, ◌++◌, ap, ◌∙◌, Result, Ok, Err, OnOk}
use Rattle.bit_values.specs.Bits.{Word}
use Rattle.indus_tree.specs.Tree.{Stmts}
use Rattle.network_run.specs.PathMeaning.{Doing}
use Rattle.indus_tree.specs.State.{Hop, Held}
use Rattle.indus_tree.specs.Reads.{Items}
use Rattle.indus_tree.specs.Meaning.{block_run, named, run_turns}

pub on_ok : {T E : Type 0} (r : Result T E) (P Q : Type 0) → (P → Q) → OnOk r P → OnOk r Q
on_ok (Ok x) P Q f h = f h
on_ok (Err e) P Q f h = h

-- the same names, body and items give the same
pub same_turns : (h : Hop) (i : Items) (xs ys : List (List ℕ)) (a b : Stmts) (ts us : List (List Word)) (d e f : Doing Held Held) → xs ≡ ys → a ≡ b → ts ≡ us → run_turns (λ ws. block_run h (i ++ named ys ws) b) us d ≡ f → e ≡ run_turns (λ ws. block_run h (i ++ named xs ws) a) ts d → e ≡ f
same_turns h i xs ys a b ts us d e f p q r s g =
    g
    ∙ ap (λ (z : List (List ℕ)). run_turns (λ ws. block_run h (i ++ named z ws) a) ts d) p
    ∙ ap (λ (z : Stmts). run_turns (λ ws. block_run h (i ++ named ys ws) z) ts d) q
    ∙ ap (λ (z : List (List Word)). run_turns (λ ws. block_run h (i ++ named ys ws) b) z d) r
    ∙ s
