-- Lemmas for the crates above.
pub use Rattle.indexset_index.proofs.BlockLemmas.{count-blocks, no-blocks, sum-blocks}
pub use Rattle.indexset_index.proofs.IndexLemmas.{block_there, both, both_inside, emptied, fewer, first_stays, gathered, inserted, lengths_set, lowered, node_in_block, raised, two_long}
pub use Rattle.indexset_index.proofs.NodeLemmas.{lengths-insert, lengths-remove, made-of-two, without-half}
pub use Rattle.indexset_index.proofs.PlaceLemmas.{count-lengths, length-at, node-le, place-fits, place-found, prefix-concat}
