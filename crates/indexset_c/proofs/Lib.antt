mod MultiLemmas
pub mod PairLemmas
mod StatusLemmas
mod TextLogLemmas
pub mod WrittenLemmas
