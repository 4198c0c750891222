-- What expressions see and give are words, where a hop and a state have the declared widths.
use Rattle.std.proofs.Common.{ℕ, List, []}
use Rattle.std.proofs.lemmas.List.Elements.{All-nil, All-weaker}
use Rattle.bit_values.specs.Bits.{Word, IsWord}
use Rattle.network_run.specs.PathMeaning.{Doing}
use Rattle.indus_tree.specs.Tree.{Expr}
use Rattle.indus_tree.specs.State.{Contents, single, members, pairs, Hop, Held, shape_width}
use Rattle.indus_tree.specs.Shapes.{HasWidth, AreShaped}
use Rattle.indus_tree.specs.Meaning.{seen_by}
use Rattle.indus_tree.specs.Value.{value_of}
use Rattle.indus_tree.specs.Words.{GiveWords, SeesWords}
use Rattle.indus_tree.proofs.WordsLemmas.{value_word}
use Rattle.indus_types.specs.StaticWidths.{GiveWidth}
use Rattle.lowered_code.specs.Standing.{HopFits}
use Rattle.lowered_code.proofs.Widths.{width_is_word}

give_words : (w : ℕ) (c : Contents) → GiveWidth w c → GiveWords c
give_words w (single x) g = width_is_word w x g
give_words w (members ks) g = tt
give_words w (pairs es) g = All-weaker (λ (e : List Word × Word). HasWidth w e.1) (λ (e : List Word × Word). IsWord e.1) (λ e i. width_is_word w e.1 i) es g

module _ (h : Hop) (fit : HopFits h) (d : Doing Held Held) (shaped : AreShaped h.decls d) where
  sees_words : SeesWords (seen_by h [] d)
  sees_words =
      record {
        items = All-nil (λ (i : List ℕ × Word). IsWord i.1);
        tele = λ x c is k. All-weaker (HasWidth (shape_width c.shape)) IsWord (λ u i. width_is_word (shape_width c.shape) u i) (d.tele x) (shaped.tele x c is k).words;
        sensors = λ x c is k. All-weaker (HasWidth (shape_width c.shape)) IsWord (λ u i. width_is_word (shape_width c.shape) u i) (d.sensors x) (shaped.sensors x c is k).words;
        headers = λ x c is k. width_is_word (shape_width c.shape) (h.headers x) (fit.words x c is k);
        contents = λ x c is k. give_words (shape_width c.shape) (h.contents x) (fit.gives x c is k);
      }

  pub word_seen : (e : Expr) (w : ℕ) → IsWord (value_of (seen_by h [] d) e w)
  word_seen e w = value_word (seen_by h [] d) sees_words e w
