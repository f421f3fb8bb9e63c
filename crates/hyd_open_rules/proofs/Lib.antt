pub mod CarriedOverByFacts
pub mod ReadingsOverLengths
pub mod WhatRulesBring
pub mod InstantsWalked
