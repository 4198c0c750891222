pub mod KeptStores
pub mod ParsedStores
pub mod StartStores
pub mod PassageFits
pub mod DeclaredTypes
pub mod SightFits
pub mod SeenNames
pub mod Fronts
pub mod BegunSights
pub mod SeenParsers
pub mod SeenBlocks
pub mod SeenControls
pub mod SeenChecksums
pub mod SeenPassages
mod Rows
