use Rattle.seals.proofs.keys.keys_of.Goals as goal

pub returns : goal.returns
returns c = λ i. record {
  initiator_key = c.made_with.ensures i;
  responder_key = c.made_with-2.ensures i;
  initiator_tag = c.made_with-3.ensures i;
  responder_tag = c.made_with-4.ensures i;
}
