-- No item is a prefix of another, nor a page.
use Rattle.std.proofs.Common.{refl}
use Rattle.std.specs.Int.{w64}
use Rattle.wire.specs.Record.{IsPrefixFree}
use Rattle.wire.specs.Number.{num}
use Rattle.wire.specs.Item.{item_text, entry_text, page_text}
use Rattle.wire.specs.FieldLaws.{option_prefix_free, list_prefix_free}
use Rattle.wire.specs.BlockLaws.{block_prefix_free}
use Rattle.wire.specs.KeyLaws.{key_prefix_free}
use Rattle.wire.specs.RowLaws.{u32_free, u64_free, followed, made_of, marked}

pub item_prefix_free : IsPrefixFree item_text
item_prefix_free = made_of
    (followed (followed (followed u32_free (option_prefix_free (num w64) u64_free)) u64_free) block_prefix_free)
    item_text
    (λ item. (((item.flags, item.due), item.unique), item.block))
    (λ p. record { flags = p.0.0.0; due = p.0.0.1; unique = p.0.1; block = p.1 })
    (λ item. refl)
    (λ item. refl)

pub entry_prefix_free : IsPrefixFree entry_text
entry_prefix_free = followed key_prefix_free item_prefix_free

pub page_prefix_free : IsPrefixFree page_text
unfolding page_text
page_prefix_free = marked 0 (list_prefix_free entry_text entry_prefix_free)
