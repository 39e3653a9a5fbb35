-- What the pass over a tree's nodes has seen.
mod Seen
