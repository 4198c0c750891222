-- What readers of files of tables and contents answer.
use Rattle.std.specs.Prelude.{Result}
use Rattle.json_parts.specs.Answers.{GivesUnless}
use Rattle.table_faults.specs.declared.table.TableFault.{TableFault}
use Rattle.table_faults.specs.declared.table.TableFault.TheVariants.{NoMemory}

-- an answer is what a definition gives, unless memory was wanting
abbrev pub Gives : {X Y : Type 0} → (X → Y) → Result X TableFault → Result Y TableFault → Type 0
Gives view result defined = GivesUnless NoMemory view result defined
