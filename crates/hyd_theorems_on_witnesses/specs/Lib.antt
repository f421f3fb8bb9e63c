pub mod DrivenDemands
