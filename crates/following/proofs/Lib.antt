mod RuleLemmas
