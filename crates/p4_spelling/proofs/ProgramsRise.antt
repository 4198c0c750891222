-- The places of programs rise.
use Rattle.std.proofs.Common.{ℕ, ◌+◌, List, [], ◌∷◌, ◌++◌, length, refl, arith}
use Rattle.std.proofs.lemmas.List.{length-append}
use Rattle.lex_words.specs.Seen.{Lexeme, name, key}
use Rattle.lex_words.specs.declared.key.Key.TheVariants as k
use Rattle.p4_tree.specs.Tree.{Top}
use Rattle.p4_spelling.specs.Words.{main_name}
use Rattle.p4_spelling.specs.Programs.{SpellsTop, a_const, a_typedef, a_register, a_parser, a_control, a_header, a_struct, a_program}
use Rattle.p4_spelling.specs.Rising.{TopRises, PlacesRise}
use Rattle.p4_spelling.proofs.Wider.{wide_each, wider_top}
use Rattle.p4_spelling.proofs.ListsRise.{each_rises}
use Rattle.p4_spelling.proofs.StatementsRise.{const_rises}
use Rattle.p4_spelling.proofs.DeclarationsRise.{register_rises, parser_rises, control_rises}

top_rises : (p : ℕ) (t : Top) (u : List Lexeme) → SpellsTop p t u → TopRises p (p + length u) t
top_rises p _ _ (a_const a) = (omega arith, const_rises a)
top_rises p _ _ (a_typedef {u = u} x a) = (omega arith, omega arith)
top_rises p _ _ (a_register a) = register_rises a
top_rises p _ _ (a_parser a) = let r = parser_rises a in (omega arith, r.0, r.1)
top_rises p _ _ (a_control a) = let r = control_rises a in (omega arith, r.0, r.1)
top_rises p _ _ (a_header x a) = (omega arith, omega arith)
top_rises p _ _ (a_struct x a) = (omega arith, omega arith)

pub places_rise : PlacesRise
places_rise t ws (a_program {ts = list} {s = s} {u = u} {v = v} a b c) =
    record {
      at = refl;
      tops = wide_each TopRises wider_top list (length s) (length s + length u) 0 (length (s ++ (u ++ key k.V1Switch ∷ key k.Open ∷ (v ++ key k.Close ∷ name main_name ∷ key k.Semicolon ∷ [])))) (omega arith)
          (omega (arith, length-append s (u ++ key k.V1Switch ∷ key k.Open ∷ (v ++ key k.Close ∷ name main_name ∷ key k.Semicolon ∷ [])), length-append u (key k.V1Switch ∷ key k.Open ∷ (v ++ key k.Close ∷ name main_name ∷ key k.Semicolon ∷ []))))
          (each_rises SpellsTop TopRises wider_top top_rises b);
    }
