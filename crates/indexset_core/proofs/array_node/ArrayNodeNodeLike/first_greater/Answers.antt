use Rattle.indexset_core.proofs.array_node.ArrayNodeNodeLike.first_greater.Goals as goal

pub first_greater-requires : goal.first_greater-requires
first_greater-requires g c = rw (c.as_slice.ensures.value, c.self.view_is) c.requires

pub returns-clause-count : goal.returns-clause-count
returns-clause-count g c = rw (c.as_slice.ensures.value, c.self.view_is) at c.first_greater.ensures.count

pub returns-clause-fixed : goal.returns-clause-fixed
returns-clause-fixed g c = c.first_greater.ensures.fixed

pub returns-clause-comparisons : goal.returns-clause-comparisons
returns-clause-comparisons g c = rw (c.as_slice.ensures.value, c.self.view_is) at c.first_greater.ensures.comparisons
