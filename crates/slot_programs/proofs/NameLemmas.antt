-- Names that are the same.
use Rattle.std.proofs.Common.{◌≡◌, ℕ, List, Bool, true, false, ◌||◌, refl}
use Rattle.lex_text.specs.Names.{same_text}
use Rattle.p4_statements.proofs.RegistersLemmas.{text_decides}

pub same_is : (x y : List ℕ) → same_text x y ≡ true → x ≡ y
same_is x y e = (text_decides x y).0 e

pub same_self : (x : List ℕ) → same_text x x ≡ true
same_self x = (text_decides x x).1 refl

pub or_right : (a b : Bool) → b ≡ true → (a || b) ≡ true
or_right true b e = refl
or_right false b e = e
