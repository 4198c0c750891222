mod Lists
mod ArgumentLists
mod Built
mod Nodes
mod Standing
