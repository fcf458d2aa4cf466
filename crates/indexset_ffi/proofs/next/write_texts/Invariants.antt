use Rattle.std.proofs.Common.{◌≡◌, ◌≤◌, length, drop, min, take}
use Rattle.indexset_core.specs.Nodes.{concat}
use Rattle.indexset_core.specs.Pairs.{pair_keys, pair_values}
use Rattle.indexset_ffi.specs.Elements.{written}
use Rattle.indexset_ffi.specs.Text.{key_lengths, written_over}
use Rattle.indexset_ffi.proofs.next.write_texts.Given as goal

-- the first elements of the slices are the items so far, and the iterator has the rest
abbrev pub invariant-loop-count : goal.invariant-loop-count
invariant-loop-count l = record {
  inside : l.count ≤ length l.fn.walk;
  room : l.count ≤ l.room;
  long : length l.lengths ≡ length l.fn.lengths;
  many : length l.values ≡ length l.fn.values;
  walked : l.walk ≡ drop l.count l.fn.walk;
  measured : l.lengths ≡ written l.count (key_lengths l.fn.walk) l.fn.lengths;
  valued : l.values ≡ written l.count (pair_values l.fn.walk) l.fn.values;
  used : l.used ≡ min (length l.fn.bytes) (length (concat (take l.count (pair_keys l.fn.walk))));
  wide : length l.bytes ≡ length l.fn.bytes;
  bytes : l.bytes ≡ written_over (concat (take l.count (pair_keys l.fn.walk))) l.fn.bytes;
}
