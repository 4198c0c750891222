-- Which registers are meant, by their names. What linkers add to programs has names that begin with `hydra_`.
use Rattle.std.specs.Prelude.{ℕ, List, codes, Bool, true, not}
use Rattle.lex_text.specs.Comments.{begins}
use Rattle.lex_text.specs.Names.{same_text}
use Rattle.register_texts.specs.declared.which.Which.{Which}
use Rattle.register_texts.specs.declared.which.Which.TheVariants.{All, Forwarding, Sensors, Rejects}

abbrev pub is_one_of : Which → List ℕ → Bool
is_one_of All x = true
is_one_of Forwarding x = not (begins (codes "hydra_") x)
is_one_of Sensors x = begins (codes "hydra_s_") x
is_one_of Rejects x = same_text x (codes "hydra_rejects")
