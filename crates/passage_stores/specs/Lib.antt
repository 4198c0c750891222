pub mod FitStores
pub mod PassageStores
pub mod Sights
pub mod SeenStores
pub mod SeenPassages
