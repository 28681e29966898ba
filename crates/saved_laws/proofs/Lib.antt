mod BehindLemmas
