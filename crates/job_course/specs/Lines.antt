-- The lines of answers that every command has, and the words and statuses of areas.
use Rattle.std.specs.Prelude.{ℕ, List, [], ◌∷◌, ◌++◌, codes}
use Rattle.std.specs.Fmt.{decimal}
use Rattle.lex_text.specs.declared.fault.LexFault.{LexFault}
use Rattle.lex_text.specs.declared.fault.LexFault.TheVariants as lex
use Rattle.job_course.specs.declared.status.Status.{Status}
use Rattle.job_course.specs.declared.status.Status.TheVariants.{BadProperty, BadProgram, BadNetwork, BadCapture}
use Rattle.job_course.specs.declared.status.Area.{Area}
use Rattle.job_course.specs.declared.status.Area.TheVariants.{Property, Program, Network, Capture}

-- a faulty command line
abbrev pub words_line : List ℕ
words_line = codes "hydra: words\n"

-- want of memory
abbrev pub memory_line : List ℕ
memory_line = codes "hydra: memory\n"

-- a file that is missing or could not be read
abbrev pub read_line : (name : List ℕ) → List ℕ
read_line name = codes "hydra: read " ++ name ++ 10 ∷ []

-- a file that could not be written; of the sink the name is `-`
abbrev pub write_line : (name : List ℕ) → List ℕ
write_line name = codes "hydra: write " ++ name ++ 10 ∷ []

-- the word of an area
abbrev pub area_word : Area → List ℕ
area_word Property = codes "property"
area_word Program = codes "program"
area_word Network = codes "network"
area_word Capture = codes "capture"

-- the status of an area's refusals
abbrev pub area_status : Area → Status
area_status Property = BadProperty
area_status Program = BadProgram
area_status Network = BadNetwork
area_status Capture = BadCapture

-- a file that is longer than its limit
abbrev pub long_line : Area → (name : List ℕ) → List ℕ
long_line area name = codes "hydra: " ++ (area_word area ++ (32 ∷ (name ++ codes " Long\n")))

-- a file with a cause that has no more to say, as that it passes a limit
abbrev pub cause_line : Area → (name cause : List ℕ) → List ℕ
cause_line area name cause = codes "hydra: " ++ (area_word area ++ (32 ∷ (name ++ (32 ∷ (cause ++ 10 ∷ [])))))

-- a file with a cause and a place, which is a number
abbrev pub place_line : Area → (name cause : List ℕ) (at : ℕ) → List ℕ
place_line area name cause at =
    codes "hydra: " ++ (area_word area ++ (32 ∷ (name ++ (32 ∷ (cause ++ (32 ∷ (decimal at ++ 10 ∷ [])))))))

-- a file with a cause and a place, and a word for what stands there
abbrev pub word_line : Area → (name cause : List ℕ) (at : ℕ) (word : List ℕ) → List ℕ
word_line area name cause at word =
    codes "hydra: " ++ (area_word area ++ (32 ∷ (name ++ (32 ∷ (cause ++ (32 ∷ (decimal at ++ (32 ∷ (word ++ 10 ∷ [])))))))))

-- the word of a fault of tokens, and its place; want of memory is no such fault
abbrev pub lex_word : LexFault → List ℕ
lex_word (lex.NotUtf8 at) = codes "NotUtf8"
lex_word (lex.BadChar at) = codes "BadChar"
lex_word (lex.OpenComment at) = codes "OpenComment"
lex_word (lex.NumberTooWide at) = codes "NumberTooWide"
lex_word (lex.OpenText at) = codes "OpenText"
lex_word lex.NoMemory = []

abbrev pub lex_place : LexFault → ℕ
lex_place (lex.NotUtf8 at) = at
lex_place (lex.BadChar at) = at
lex_place (lex.OpenComment at) = at
lex_place (lex.NumberTooWide at) = at
lex_place (lex.OpenText at) = at
lex_place lex.NoMemory = 0

-- a file whose text has no tokens
abbrev pub lex_line : Area → (name : List ℕ) → LexFault → List ℕ
lex_line area name f = place_line area name (codes "Lex " ++ lex_word f) (lex_place f)
