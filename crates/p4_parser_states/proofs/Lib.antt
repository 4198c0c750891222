mod Core
mod Lists
mod Passing
mod Opening
mod Closing
mod Reaching
mod Numbered
mod Rows
