-- Values of the program without where they lie in memory.
use Rattle.std.specs.Prelude.{List, map, Result}
use Rattle.network_run.specs.Network.{Link}
use Rattle.json_parts.specs.Answers.{GivesUnless}
use Rattle.json_parts.specs.Views.{texts}
use Rattle.network_file.specs.Named as named
use Rattle.network_file.specs.declared.fault.NetworkFault.{NetworkFault}
use Rattle.network_file.specs.declared.fault.NetworkFault.TheVariants.{NoMemory}
use Rattle.network_file.specs.declared.named.NamedLink.{NamedLink}
use Rattle.network_file.specs.declared.named.NamedFile.{NamedFile}
use Rattle.network_file.specs.declared.numbered.NumberedLink.{NumberedLink}

-- an answer is what a definition gives, unless memory was wanting
abbrev pub Gives : {X Y : Type 0} → (X → Y) → Result X NetworkFault → Result Y NetworkFault → Type 0
Gives view result defined = GivesUnless NoMemory view result defined

abbrev pub link_view : NamedLink → named.NamedLink
link_view l = record { one = l.one.now; one_port = l.one_port; other = l.other.now; other_port = l.other_port }

abbrev pub link_views : List NamedLink → List named.NamedLink
link_views ls = map link_view ls

abbrev pub file_view : NamedFile → named.NamedFile
file_view f = record { switches = texts f.switches.items; links = link_views f.links.items }

abbrev pub numbered_view : NumberedLink → Link
numbered_view l = record { one = l.one; one_port = l.one_port; other = l.other; other_port = l.other_port }

abbrev pub numbered_views : List NumberedLink → List Link
numbered_views ls = map numbered_view ls
