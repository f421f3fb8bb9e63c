pub mod WhereOneLiesBeyondByMost
pub mod FirstItemsAndChoices
pub mod RaisesAndTightVector
pub mod RaisesInAnyOrder
pub mod SearchStarts
pub mod NoLinkBetweenJunctions
pub mod CertificateOrFailure
