-- Which names are the monitor's: those that begin with `hydra_`, but for those that begin with `hydra_x_`, which take exits
-- out of a program. What the forwarding program's own code may read and write is told by regions of paths.
use Rattle.std.specs.Prelude.{codes, ℕ, List, [], ◌∷◌, Bool, true, false, ◌&&◌, ◌||◌, not, if◌then◌else◌}
use Rattle.lex_text.specs.Names.{same_text}
use Rattle.lex_text.specs.Comments.{begins}
use Rattle.p4_meaning.specs.Standard.{headers_root, standard_root}

-- the name is the monitor's
abbrev pub is_mine : List ℕ → Bool
is_mine x = begins (codes "hydra_") x && not (begins (codes "hydra_x_") x)

-- the path is not one of the monitor's, which its first two names tell. Own code may read it
abbrev pub is_free : List (List ℕ) → Bool
is_free [] = true
is_free (x ∷ []) = not (is_mine x)
is_free (x ∷ y ∷ rest) = not (is_mine x) && not (is_mine y)

-- own code may write it: of the standard metadata `egress_spec`, and the error of a checksum
abbrev pub is_writable : List (List ℕ) → Bool
is_writable [] = false
is_writable (x ∷ []) = not (is_mine x)
is_writable (x ∷ y ∷ rest) = is_free (x ∷ y ∷ []) && (if same_text standard_root x then same_text (codes "egress_spec") y || same_text (codes "checksum_error") y else true)

-- a header of the forwarding program
abbrev pub is_own_header : List (List ℕ) → Bool
is_own_header [] = false
is_own_header (x ∷ []) = false
is_own_header (x ∷ y ∷ []) = same_text headers_root x && not (is_mine y)
is_own_header (x ∷ y ∷ z ∷ rest) = false
